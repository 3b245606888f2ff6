-- Sums over lists, how often a number stands in a list, and the numbers that a pass claimed.
use Rattle.std.proofs.Common.{◌≡◌, ℕ, zero, suc, ◌+◌, ◌≤◌, ◌≢◌, ◌⊎◌, List, [], ◌∷◌, ◌++◌, length, set, refl, sym, ap, inl, inr, ⊎_elim, arith, ◌<◌, max, lt_of_not-le}
use Rattle.std.proofs.lemmas.Bool.Decides.{nat_tests}
use mathlib.Core.Option.{some, some-injective, some-ne-none}
use lib.ListN.{get_elem?}
use Rattle.job_matrix.specs.Counting.{times, total}

module _ {A : Type 0} where
  pub total_set : (f : A → ℕ) (l : List A) (i : ℕ) (v w : A) → get_elem? l i ≡ some v → total f (set l i w) + f v ≡ total f l + f w
  total_set f [] i v w e = absurd (some-ne-none v (sym e))
  total_set f (x ∷ xs) zero v w e = omega (arith, ap f (some-injective x v e))
  total_set f (x ∷ xs) (suc i) v w e = omega (arith, total_set f xs i v w e)

  pub total_snoc : (f : A → ℕ) (l : List A) (w : A) → total f (l ++ w ∷ []) ≡ total f l + f w
  total_snoc f [] w = omega arith
  total_snoc f (x ∷ xs) w = omega (arith, total_snoc f xs w)

  -- one element counts no more than all
  pub total_at : (f : A → ℕ) (l : List A) (i : ℕ) (v : A) → get_elem? l i ≡ some v → f v ≤ total f l
  total_at f [] i v e = absurd (some-ne-none v (sym e))
  total_at f (x ∷ xs) zero v e = omega (arith, ap f (some-injective x v e))
  total_at f (x ∷ xs) (suc i) v e = omega (arith, total_at f xs i v e)

  -- if each element counts no more by f than by g and h together, so do all
  pub total_below : (f g h : A → ℕ) (l : List A) → ((i : ℕ) (v : A) → get_elem? l i ≡ some v → f v ≤ g v + h v) → total f l ≤ total g l + total h l
  total_below f g h [] each = omega arith
  total_below f g h (x ∷ xs) each = omega (arith, each 0 x refl, total_below f g h xs (λ i v e. each (suc i) v e))

  pub total_none : (f : A → ℕ) (l : List A) → ((i : ℕ) (v : A) → get_elem? l i ≡ some v → f v ≡ 0) → total f l ≡ 0
  total_none f [] each = refl
  total_none f (x ∷ xs) each = omega (arith, each 0 x refl, total_none f xs (λ i v e. each (suc i) v e))

  -- what stands in a list with one element more, and where
  pub at_snoc : (l : List A) (a b : A) (j : ℕ) → get_elem? (l ++ a ∷ []) j ≡ some b → (get_elem? l j ≡ some b) ⊎ ((j ≡ length l) × (a ≡ b))
  at_snoc [] a b zero e = inr (refl, some-injective a b e)
  at_snoc [] a b (suc j) e = absurd (some-ne-none b (sym e))
  at_snoc (x ∷ xs) a b zero e = inl e
  at_snoc (x ∷ xs) a b (suc j) e = ⊎_elim (λ t. inl t) (λ t. inr (ap suc t.0, t.1)) (at_snoc xs a b j e)

pub times-append : (x : ℕ) (xs ys : List ℕ) → times x (xs ++ ys) ≡ times x xs + times x ys
times-append x [] ys = omega arith
times-append x (y ∷ xs) ys = omega (arith, times-append x xs ys)

pub times_one : (x y : ℕ) → (x ≡ y → times x (y ∷ []) ≡ 1) × (x ≢ y → times x (y ∷ []) ≡ 0)
times_one x y = ((λ e. grind (arith, nat_tests)), (λ n. grind (arith, nat_tests)))

-- ---- a pass claims rising numbers, each once

-- the least number that is above all of a list
abbrev pub above_all : List ℕ → ℕ
above_all [] = 0
above_all (x ∷ xs) = max (x + 1) (above_all xs)

pub above_all-append : (xs : List ℕ) (y : ℕ) → y < above_all (xs ++ y ∷ [])
above_all-append [] y = omega arith
above_all-append (x ∷ xs) y = omega (arith, above_all-append xs y)

-- if no number from y on is in the list, y is above all
pub above_all-le : (xs : List ℕ) (y : ℕ) → ((x : ℕ) → y ≤ x → times x xs ≡ 0) → above_all xs ≤ y
above_all-le [] y none = omega arith
above_all-le (x ∷ xs) y none =
    let here : x < y = lt_of_not-le (λ h. absurd (omega (arith, none x h, (times_one x x).0 refl))) in
    let rest = above_all-le xs y (λ z h. omega (arith, none z h)) in
    omega arith
