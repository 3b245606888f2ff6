-- Lists that are made from another one, element by element.
use Rattle.std.proofs.Common.{◌≡◌, ℕ, ◌+◌, Bool, true, false, cond, List, [], ◌∷◌, map, filter, Some, option_map, refl, sym, ap, ◌∙◌}
use Rattle.std.specs.List.{take_while, find, enumerate_from, AllByRecursion}
use Rattle.std.proofs.lemmas.List.Sums.{take_while-cons}

pub take_while-map : {A B : Type 0} (p : B → Bool) (f : A → B) (xs : List A) → take_while p (map f xs) ≡ map f (take_while (λ x. p (f x)) xs)
take_while-map p f [] = refl
take_while-map {A} {B} p f (x ∷ xs) =
    take_while-cons p (f x) (map f xs) ∙ step (p (f x)) (take_while p (map f xs)) (take_while (λ y. p (f y)) xs) (take_while-map p f xs)
    ∙ ap (map f) (sym (take_while-cons (λ y. p (f y)) x xs))
  where
    step : (b : Bool) (ys : List B) (zs : List A) → ys ≡ map f zs → cond b (f x ∷ ys) [] ≡ map f (cond b (x ∷ zs) [])
    step true ys zs e = ap (λ l. f x ∷ l) e
    step false ys zs e = refl

pub filter-map : {A B : Type 0} (p : B → Bool) (f : A → B) (xs : List A) → filter p (map f xs) ≡ map f (filter (λ x. p (f x)) xs)
filter-map p f [] = refl
filter-map {A} {B} p f (x ∷ xs) = step (p (f x)) (filter p (map f xs)) (filter (λ y. p (f y)) xs) (filter-map p f xs)
  where
    step : (b : Bool) (ys : List B) (zs : List A) → ys ≡ map f zs → cond b (f x ∷ ys) ys ≡ map f (cond b (x ∷ zs) zs)
    step true ys zs e = ap (λ l. f x ∷ l) e
    step false ys zs e = e

-- the first element that passes is alike in two lists made from one, if both agree on each element
pub found_same : {A B C D : Type 0} (f : B → D) (p : B → Bool) (h : A → B) (g : C → D) (q : C → Bool) (k : A → C) (xs : List A) → AllByRecursion (λ x. (p (h x) ≡ q (k x)) × (f (h x) ≡ g (k x))) xs
    → option_map f (find p (map h xs)) ≡ option_map g (find q (map k xs))
found_same f p h g q k [] all = refl
found_same {A} {B} {C} {D} f p h g q k (x ∷ xs) all = step (p (h x)) (q (k x)) all.0.0 (found_same f p h g q k xs all.1)
  where
    step : (a b : Bool) → a ≡ b → option_map f (find p (map h xs)) ≡ option_map g (find q (map k xs))
        → option_map f (cond a (Some (h x)) (find p (map h xs))) ≡ option_map g (cond b (Some (k x)) (find q (map k xs)))
    step true true same rest = ap Some all.0.1
    step true false same rest = absurd cc
    step false true same rest = absurd cc
    step false false same rest = rest

pub map_same : {A B : Type 0} (f g : A → B) (xs : List A) → AllByRecursion (λ x. f x ≡ g x) xs → map f xs ≡ map g xs
map_same f g [] all = refl
map_same f g (x ∷ xs) all = ap (λ y. y ∷ map f xs) all.0 ∙ ap (λ l. g x ∷ l) (map_same f g xs all.1)

pub filter_same : {A : Type 0} (p q : A → Bool) (xs : List A) → AllByRecursion (λ x. p x ≡ q x) xs → filter p xs ≡ filter q xs
filter_same p q [] all = refl
filter_same p q (x ∷ xs) all = ap (λ b. cond b (x ∷ filter p xs) (filter p xs)) all.0 ∙ ap (λ l. cond (q x) (x ∷ l) l) (filter_same p q xs all.1)

pub and_both : {A : Type 0} (P Q R : A → Type 0) → ((a : A) → P a → Q a → R a) → (xs : List A) → AllByRecursion P xs → AllByRecursion Q xs → AllByRecursion R xs
and_both P Q R f [] p q = tt
and_both P Q R f (x ∷ xs) p q = (f x p.0 q.0, and_both P Q R f xs p.1 q.1)

pub all_enumerated : {A B : Type 0} (P : A → Type 0) (Q : B → Type 0) (f : ℕ × A → B) → ((n : ℕ) (x : A) → P x → Q (f (n, x))) → (n : ℕ) (xs : List A) → AllByRecursion P xs
    → AllByRecursion Q (map f (enumerate_from n xs))
all_enumerated P Q f each n [] all = tt
all_enumerated P Q f each n (x ∷ xs) all = (each n x all.0, all_enumerated P Q f each (n + 1) xs all.1)
