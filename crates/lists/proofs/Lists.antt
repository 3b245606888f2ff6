-- Lemmas on lists that several crates need and std lacks.
use Rattle.std.proofs.Common.{◌≡◌, ◌≢◌, ◌<◌, ◌≤◌, ℕ, zero, suc, ◌+◌, ◌-◌, Bool, true, false, cond, List, [], ◌∷◌, ◌++◌, length, map, take, drop, filter, set, get_or, slice_get, Option, Some, None, refl, sym, ap, arith}
use Rattle.std.specs.List.{range_with_len, take_while, find, AllByRecursion}
use Rattle.std.specs.Option.{option_or}
use Rattle.std.proofs.lemmas.List.{drop-take}
use Rattle.std.proofs.lemmas.List.FromFn.{fill_by_all}
use Rattle.std.proofs.lemmas.List.Elements.{All-from_recursion, recursion_from_All, All-get_or, All-append, All-take, All-drop, All-filter, All-weaker, All-map}
use Rattle.std.proofs.lemmas.List.Sums.{take_while-cons}

module _ {A : Type 0} (P : A → Type 0) where
  pub all_at : (xs : List A) (i : ℕ) (d : A) → AllByRecursion P xs → i < length xs → P (get_or xs i d)
  all_at xs i d all within = All-get_or P xs i d within (All-from_recursion P xs all)

  pub all_append : (xs ys : List A) → AllByRecursion P xs → AllByRecursion P ys → AllByRecursion P (xs ++ ys)
  all_append xs ys all more = recursion_from_All P (xs ++ ys) (All-append P xs ys (All-from_recursion P xs all) (All-from_recursion P ys more))

  pub all_push : (xs : List A) (x : A) → AllByRecursion P xs → P x → AllByRecursion P (xs ++ x ∷ [])
  all_push xs x all last = all_append xs (x ∷ []) all (last, tt)

  pub all_take : (n : ℕ) (xs : List A) → AllByRecursion P xs → AllByRecursion P (take n xs)
  all_take n xs all = recursion_from_All P (take n xs) (All-take P n xs (All-from_recursion P xs all))

  pub all_drop : (n : ℕ) (xs : List A) → AllByRecursion P xs → AllByRecursion P (drop n xs)
  all_drop n xs all = recursion_from_All P (drop n xs) (All-drop P n xs (All-from_recursion P xs all))

  pub all_filter : (test : A → Bool) (xs : List A) → AllByRecursion P xs → AllByRecursion P (filter test xs)
  all_filter test xs all = recursion_from_All P (filter test xs) (All-filter test P xs (All-from_recursion P xs all))

  pub all_take_while : (test : A → Bool) (xs : List A) → AllByRecursion P xs → AllByRecursion P (take_while test xs)
  all_take_while test [] all = tt
  all_take_while test (x ∷ xs) all = rw (take_while-cons test x xs) (by (test x) (all_take_while test xs all.1))
    where
      by : (b : Bool) → AllByRecursion P (take_while test xs) → AllByRecursion P (cond b (x ∷ take_while test xs) [])
      by true rest = (all.0, rest)
      by false rest = tt

  pub all_found : (test : A → Bool) (xs : List A) (x : A) → AllByRecursion P xs → find test xs ≡ Some x → P x
  all_found test [] x all is = absurd cc
  all_found test (y ∷ ys) x all is = by (test y) is (all_found test ys x all.1)
    where
      by : (b : Bool) → cond b (Some y) (find test ys) ≡ Some x → (find test ys ≡ Some x → P x) → P x
      by true same later = let e : y ≡ x = cc in rw (← e) all.0
      by false same later = later same

pub all_weaker : {A : Type 0} (P Q : A → Type 0) → ((x : A) → P x → Q x) → (xs : List A) → AllByRecursion P xs → AllByRecursion Q xs
all_weaker P Q weaker xs all = recursion_from_All Q xs (All-weaker P Q weaker xs (All-from_recursion P xs all))

pub all_map : {A B : Type 0} (P : B → Type 0) (f : A → B) (xs : List A) → AllByRecursion (λ x. P (f x)) xs → AllByRecursion P (map f xs)
all_map P f xs all = recursion_from_All P (map f xs) (All-map P f xs (All-from_recursion (λ x. P (f x)) xs all))

pub listed : {A : Type 0} (xs : List A) (n : ℕ) (d : A) → length xs ≡ n → map (λ j. get_or xs j d) (range_with_len 0 n) ≡ xs
listed xs n d len = sym (fill_by_all (λ j. get_or xs j d) xs n d len (λ k below. refl))

pub map_next : (f g : ℕ → ℕ) → ((i : ℕ) → f (i + 1) ≡ g i) → (a n : ℕ) → map f (range_with_len (a + 1) n) ≡ map g (range_with_len a n)
map_next f g same a zero = refl
map_next f g same a (suc n) = rw (same a, map_next f g same (a + 1) n) refl

pub slice_get-set_same : {A : Type 0} (xs : List A) (i : ℕ) (x : A) → i < length xs → slice_get (set xs i x) i ≡ Some x
slice_get-set_same [] i x within = absurd (omega arith)
slice_get-set_same (y ∷ xs) zero x within = refl
slice_get-set_same (y ∷ xs) (suc i) x within = slice_get-set_same xs i x (omega arith)

pub slice_get-set_other : {A : Type 0} (xs : List A) (i k : ℕ) (x : A) → k ≢ i → slice_get (set xs i x) k ≡ slice_get xs k
slice_get-set_other [] i k x other = refl
slice_get-set_other (y ∷ xs) zero zero x other = absurd (other refl)
slice_get-set_other (y ∷ xs) zero (suc k) x other = refl
slice_get-set_other (y ∷ xs) (suc i) zero x other = refl
slice_get-set_other (y ∷ xs) (suc i) (suc k) x other = slice_get-set_other xs i k x (λ e. other (ap suc e))

pub drop_of_take : {A : Type 0} (d n : ℕ) (xs : List A) → d ≤ n → drop d (take n xs) ≡ take (n - d) (drop d xs)
drop_of_take d n xs within =
    let whole : n ≡ d + (n - d) = omega arith in
    let e = drop-take d (n - d) xs in
    rw (← whole) at e

pub option_or-assoc : {A : Type 0} (a b c : Option A) → option_or (option_or a b) c ≡ option_or a (option_or b c)
option_or-assoc None b c = refl
option_or-assoc (Some x) b c = refl
