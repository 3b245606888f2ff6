-- What a list's numbered elements give, and together up to a place.
use Rattle.std.proofs.Common.{◌≡◌, ◌<◌, ◌≤◌, ℕ, ◌+◌, List, ◌++◌, length, take, get_or, map, sym, ap, ap₂, ◌∙◌, arith}
use Rattle.std.specs.List.{enumerate_from, flat_map, range_with_len}
use Rattle.std.proofs.lemmas.List.{flat_map_more, take_all, take_more}
use Rattle.std.proofs.lemmas.List.Folds.{flat_map-map}
use Rattle.std.proofs.lemmas.List.FromFn.{length-enumerate_from, get_or-enumerate_from, map-range_with_len_more}

module _ {X A : Type 0} (f : ℕ × X → List A) (xs : List X) (first : List A) where
  -- after what came first, what the elements before a place give
  abbrev pub so_far : ℕ → List A
  so_far i = first ++ flat_map f (take i (enumerate_from 0 xs))

  pub one_more : (i : ℕ) (x : X) (before after : List A) → i < length xs → x ≡ get_or xs i x → before ≡ so_far i → after ≡ before ++ f (i, x) → after ≡ so_far (i + 1)
  one_more i x before after within read was is =
      let es : List (ℕ × X) = enumerate_from 0 xs in
      let e : ℕ × X = get_or es i (0, x) in
      let place : i ≡ 0 + i = omega arith in
      let own : f (i, x) ≡ f e = ap₂ (λ (n : ℕ) (y : X). f (n, y)) place read ∙ ap f (sym (get_or-enumerate_from 0 xs i (0, x) within)) in
      is ∙ ap₂ (λ ys zs. ys ++ zs) was own ∙ flat_map_more f first (take i es) e
      ∙ ap (λ ys. first ++ flat_map f ys) (sym (take_more es i (0, x) (omega (arith, within, length-enumerate_from 0 xs))))

  pub all_of : (i : ℕ) → length xs ≤ i → so_far i ≡ first ++ flat_map f (enumerate_from 0 xs)
  all_of i over = ap (λ es. first ++ flat_map f es) (take_all i (enumerate_from 0 xs) (omega (arith, over, length-enumerate_from 0 xs)))

-- the same of numbers from 0 on
pub number_more : {A : Type 0} (f : ℕ → List A) (first : List A) (n : ℕ) → (first ++ flat_map f (range_with_len 0 n)) ++ f n ≡ first ++ flat_map f (range_with_len 0 (n + 1))
number_more f first n =
    ap (λ ys. (first ++ ys) ++ f n) (sym (flat_map-map (λ ys. ys) f (range_with_len 0 n)))
    ∙ flat_map_more (λ ys. ys) first (map f (range_with_len 0 n)) (f n)
    ∙ ap (λ ys. first ++ flat_map (λ zs. zs) ys) (sym (map-range_with_len_more f 0 n n (let e : 0 + n ≡ n = omega arith in e)))
    ∙ ap (λ ys. first ++ ys) (flat_map-map (λ ys. ys) f (range_with_len 0 (n + 1)))
