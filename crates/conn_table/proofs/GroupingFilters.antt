-- What filters keep of lists.
use Rattle.std.proofs.Common.{◌≡◌, Bool, true, false, cond, List, [], ◌∷◌, ◌++◌, filter, Option, Some, None, refl, subst}
use Rattle.std.specs.List.{AllByRecursion, last_or}
use Rattle.std.proofs.lemmas.List.Elements.{recursion_from_All, filter_passes}
use Rattle.std.proofs.lemmas.Option.{same_Some}

-- tests that agree at each of some elements keep the same of these
pub filter_alike : {X : Type 0} (P Q : X → Bool) (xs : List X) → AllByRecursion (λ x. P x ≡ Q x) xs → filter P xs ≡ filter Q xs
filter_alike P Q [] all = refl
filter_alike P Q (x ∷ xs) all = rw (all.0, filter_alike P Q xs all.1) refl

pub filter_none : {X : Type 0} (P : X → Bool) (xs : List X) → AllByRecursion (λ x. P x ≡ false) xs → filter P xs ≡ []
filter_none P [] all = refl
filter_none P (x ∷ xs) all = rw all.0 (filter_none P xs all.1)

pub all_pass : {X : Type 0} (P : X → Bool) (xs : List X) → AllByRecursion (λ x. P x ≡ true) (filter P xs)
all_pass P xs = recursion_from_All (λ x. P x ≡ true) (filter P xs) (filter_passes P xs)

-- ---- the last that is kept

pub last_has : {X : Type 0} (H : X → Type 0) (xs : List X) (y : X) → AllByRecursion H xs → last_or None xs ≡ Some y → H y
last_has H [] y all is = absurd cc
last_has H (x ∷ []) y all is = subst H (same_Some x y is) all.0
last_has H (x ∷ z ∷ zs) y all is = last_has H (z ∷ zs) y all.1 is

pub last_passes : {X : Type 0} (P : X → Bool) (xs : List X) (y : X) → last_or None (filter P xs) ≡ Some y → P y ≡ true
last_passes P xs y is = last_has (λ x. P x ≡ true) (filter P xs) y (all_pass P xs) is

pub last_or-push : {X : Type 0} (before : Option X) (P : X → Bool) (xs : List X) (y : X)
    → last_or before (filter P (xs ++ y ∷ [])) ≡ cond (P y) (Some y) (last_or before (filter P xs))
last_or-push {X = X} before P [] y = by_test (P y)
  where
    by_test : (b : Bool) → last_or before (cond b (y ∷ []) []) ≡ cond b (Some y) before
    by_test true = refl
    by_test false = refl
last_or-push {X = X} before P (x ∷ xs) y = by_test (P x) (λ o. last_or-push o P xs y)
  where
    by_test : (b : Bool) → ((o : Option X) → last_or o (filter P (xs ++ y ∷ [])) ≡ cond (P y) (Some y) (last_or o (filter P xs)))
        → last_or before (cond b (x ∷ filter P (xs ++ y ∷ [])) (filter P (xs ++ y ∷ []))) ≡ cond (P y) (Some y) (last_or before (cond b (x ∷ filter P xs) (filter P xs)))
    by_test true rest = rest (Some x)
    by_test false rest = rest before
