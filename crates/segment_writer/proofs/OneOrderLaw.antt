-- Of each key one segment: then there is one order.
use Rattle.std.proofs.Common.{◌≡◌, ◌≤◌, Bool, true, false, cond, List, [], ◌∷◌, length, filter, refl, sym, ap, ◌∙◌, arith}
use Rattle.std.specs.List.{All}
use Rattle.std.specs.List.Sorted.{ties, IsPermutation}
use Rattle.std.proofs.lemmas.List.Sums.{length-filter}
use Rattle.std.proofs.lemmas.List.Elements.{All-cons, All-head, All-tail, All-nil}
use Rattle.std.proofs.lemmas.List.Sorted.{sum_by-IsPermutation, All-permutation, IsPermutation-trans}
use Rattle.segment_writer.specs.KeyLaws.{HasNoKeyTwice, NeverFalls, OneOrder}
use Rattle.segment_writer.specs.WrittenSegments.{below, sorted_by_key}
use Rattle.segment_writer.specs.declared.framed.Framed.{Framed}
use Rattle.segment_writer.proofs.Sorting.{sorted-only}
use Rattle.segment_writer.proofs.InOrder.{below_order, in_order_by_key, sorted_keeps_all, sorted_never_falls}

-- ---- a test that one element passes at most

module _ {X : Type 0} (p : X → Bool) where
  -- what passes is a
  abbrev IsThat : X → X → Type 0
  IsThat a x = p x ≡ true → x ≡ a

  none_that : (a : X) (xs : List X) → filter p xs ≡ [] → All (IsThat a) xs
  none_that a [] e = All-nil (IsThat a)
  none_that a (x ∷ xs) e = by (p x) refl e (none_that a xs)
    where
      by : (b : Bool) → p x ≡ b → cond b (x ∷ filter p xs) (filter p xs) ≡ [] → (filter p xs ≡ [] → All (IsThat a) xs) → All (IsThat a) (x ∷ xs)
      by true t e rest = absurd cc
      by false t e rest = All-cons (IsThat a) x xs (λ h. absurd cc) (rest e)

  one_that : (a : X) (xs : List X) → filter p xs ≡ a ∷ [] → All (IsThat a) xs
  one_that a [] e = absurd cc
  one_that a (x ∷ xs) e = by (p x) refl e (one_that a xs)
    where
      by : (b : Bool) → p x ≡ b → cond b (x ∷ filter p xs) (filter p xs) ≡ a ∷ [] → (filter p xs ≡ a ∷ [] → All (IsThat a) xs) → All (IsThat a) (x ∷ xs)
      by true t e rest = let same : x ≡ a = cc in let none : filter p xs ≡ [] = cc in All-cons (IsThat a) x xs (λ h. same) (none_that a xs none)
      by false t e rest = All-cons (IsThat a) x xs (λ h. absurd cc) (rest e)

  is_that : (a b : X) (ys more : List X) → All (IsThat a) ys → filter p ys ≡ b ∷ more → b ≡ a
  is_that a b [] more all e = absurd cc
  is_that a b (y ∷ ys) more all e = by (p y) refl e (is_that a b ys more (All-tail (IsThat a) y ys all))
    where
      by : (t : Bool) → p y ≡ t → cond t (y ∷ filter p ys) (filter p ys) ≡ b ∷ more → (filter p ys ≡ b ∷ more → b ≡ a) → b ≡ a
      by true t e rest = let same : y ≡ b = cc in sym same ∙ All-head (IsThat a) y ys all t
      by false t e rest = rest e

  same_passes : (xs ys : List X) → IsPermutation xs ys → length (filter p xs) ≤ 1 → filter p ys ≡ filter p xs
  same_passes xs ys moved few = by (filter p xs) (filter p ys) refl refl (length-filter p ys ∙ sum_by-IsPermutation (λ x. cond (p x) 1 0) xs ys moved ∙ sym (length-filter p xs)) few
    where
      by : (us vs : List X) → filter p xs ≡ us → filter p ys ≡ vs → length (filter p ys) ≡ length (filter p xs) → length (filter p xs) ≤ 1 → filter p ys ≡ filter p xs
      by [] [] e f same few = f ∙ sym e
      by [] (v ∷ vs) e f same few = absurd (omega (arith, ap length e, ap length f))
      by (u ∷ us) [] e f same few = absurd (omega (arith, ap length e, ap length f))
      by (u ∷ []) (v ∷ []) e f same few =
          let is : v ≡ u = is_that u v ys [] (All-permutation (IsThat u) xs ys moved (one_that u xs e)) f in
          f ∙ ap (λ x. x ∷ []) is ∙ sym e
      by (u ∷ w ∷ us) (v ∷ vs) e f same few = absurd (omega (arith, ap length e, ap length f))
      by (u ∷ []) (v ∷ w ∷ vs) e f same few = absurd (omega (arith, ap length e, ap length f))

-- ---- keys

-- any list of the same segments that never falls is the one in order
pub in_one_order : (xs ys : List Framed) → HasNoKeyTwice xs → IsPermutation xs ys → NeverFalls ys → ys ≡ sorted_by_key xs
in_one_order xs ys once moved falls =
    sorted-only below below_order xs ys falls (λ z. same_passes (ties below z) xs ys moved (let few = once z.key in omega (arith, length-filter (ties below z) xs)))
    ∙ (λ i. in_order_by_key i xs)

pub one_order : OneOrder
one_order xs ys once moved = in_one_order xs (sorted_by_key ys) once (IsPermutation-trans xs ys (sorted_by_key ys) moved (sorted_keeps_all ys)) (sorted_never_falls ys)
