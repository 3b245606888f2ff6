-- Lists that are alike, and mapped lists.
use Rattle.std.proofs.Common.{◌≡◌, ◌≤◌, ◌<◌, ℕ, zero, suc, ◌+◌, ◌-◌, min, List, [], ◌∷◌, length, take, drop, slice_index, refl, sym, ap, ◌∙◌, arith, Bool, true, false, cond, map, filter, Option, Some, None, ap₂}
use Rattle.std.proofs.lemmas.List.{length-take, length-drop, take-take, drop-take, get_or-take}
use Rattle.std.proofs.lemmas.Simd.{splat_is_map}
use Rattle.byteorder.specs.Endian.{big_number}
use Rattle.byteorder.specs.Numbers.{big_from-take}
use Rattle.frame_headers.specs.Frame.{number_at}
use Rattle.report_laws.specs.SeenHeads.{zeroed}
use Rattle.std.specs.List.{enumerate_from, last_or, find, zip}
use Rattle.std.specs.Option.{option_map}
use Rattle.std.proofs.Math.Path.{fun_ext}
use Rattle.reassembly.proofs.MappedLists.{filter-map}

-- ---- lists of equal length that begin with the same numbers

-- two lists have equal length and the same first n numbers, or all if they have fewer
pub record Alike (n : ℕ) (one other : List ℕ) : Type 0 where
  pub first : take n one ≡ take n other
  pub long : length one ≡ length other

take_swap : (m n : ℕ) (xs : List ℕ) → take m (take n xs) ≡ take n (take m xs)
take_swap zero zero xs = refl
take_swap zero (suc n) xs = refl
take_swap (suc m) zero xs = refl
take_swap (suc m) (suc n) [] = refl
take_swap (suc m) (suc n) (x ∷ xs) = ap (λ ys. x ∷ ys) (take_swap m n xs)

pub zeroed_same : (xs ys : List ℕ) → length xs ≡ length ys → zeroed xs ≡ zeroed ys
zeroed_same xs ys same = sym (splat_is_map xs (length ys) 0 same) ∙ splat_is_map ys (length ys) 0 refl

module _ (a b : List ℕ) where
  pub fewer : (m n : ℕ) → m ≤ n → Alike n a b → Alike m a b
  fewer m n within x = record { first = sym (take-take m n a within) ∙ ap (take m) x.first ∙ take-take m n b within; long = x.long }

  pub dropped : (k m : ℕ) → Alike (k + m) a b → Alike m (drop k a) (drop k b)
  dropped k m x = record {
    first = sym (drop-take k m a) ∙ ap (drop k) x.first ∙ drop-take k m b;
    long = length-drop k a ∙ ap (λ n. n - k) x.long ∙ sym (length-drop k b);
  }

  pub taken : (k n : ℕ) → Alike n a b → Alike n (take k a) (take k b)
  taken k n x = record {
    first = take_swap n k a ∙ ap (take k) x.first ∙ take_swap k n b;
    long = length-take k a ∙ ap (λ n. min k n) x.long ∙ sym (length-take k b);
  }

  pub same_index : (i n : ℕ) → i < n → Alike n a b → slice_index a i ≡ slice_index b i
  same_index i n within x = sym (get_or-take n a i 0 within) ∙ ap (λ xs. slice_index xs i) x.first ∙ get_or-take n b i 0 within

  pub same_number : (m place n : ℕ) → place + m ≤ n → Alike n a b → number_at m place a ≡ number_at m place b
  same_number m place n within x =
      let d = dropped place m (fewer (place + m) n within x) in
      sym (big_from-take 0 m m (drop place a) (omega arith)) ∙ ap (big_number m) d.first ∙ big_from-take 0 m m (drop place b) (omega arith)

-- ---- lists of which each element is replaced

module _ {A B : Type 0} (f : A → B) where
  pub filter_mapped : (p : B → Bool) (q : A → Bool) → ((x : A) → p (f x) ≡ q x) → (xs : List A) → filter p (map f xs) ≡ map f (filter q xs)
  filter_mapped p q same xs = filter-map p f xs ∙ ap (λ (test : A → Bool). map f (filter test xs)) (fun_ext same)

  pub enumerate_mapped : {C D : Type 0} (g : ℕ × B → D) (k : C → D) (h : ℕ × A → C) → ((n : ℕ) (x : A) → g (n, f x) ≡ k (h (n, x)))
      → (n : ℕ) (xs : List A) → map g (enumerate_from n (map f xs)) ≡ map k (map h (enumerate_from n xs))
  enumerate_mapped g k h same n [] = refl
  enumerate_mapped {C} {D} g k h same n (x ∷ xs) = ap₂ (λ (y : D) (ys : List D). y ∷ ys) (same n x) (enumerate_mapped g k h same (n + 1) xs)

  -- what is read of the first or the last element that passes
  module _ {C : Type 0} (g : Option B → C) (h : Option A → C) (none : g None ≡ h None) (some : (x : A) → g (Some (f x)) ≡ h (Some x)) where
    pub first_mapped : (p : B → Bool) (q : A → Bool) → ((x : A) → p (f x) ≡ q x) → (xs : List A) → g (find p (map f xs)) ≡ h (find q xs)
    first_mapped p q same [] = none
    first_mapped p q same (x ∷ xs) =
        ap (λ (b : Bool). g (cond b (Some (f x)) (find p (map f xs)))) (same x)
        ∙ (elim (q x) as (λ b. g (cond b (Some (f x)) (find p (map f xs))) ≡ h (cond b (Some x) (find q xs)))
        [ true ↦ some x | false ↦ first_mapped p q same xs ])

    last_read : (o : Option A) (xs : List A) → g (last_or (option_map f o) (map f xs)) ≡ h (last_or o xs)
    last_read None [] = none
    last_read (Some x) [] = some x
    last_read o (x ∷ xs) = last_read (Some x) xs

    pub last_mapped : (p : B → Bool) (q : A → Bool) → ((x : A) → p (f x) ≡ q x) → (xs : List A) → g (last_or None (filter p (map f xs))) ≡ h (last_or None (filter q xs))
    last_mapped p q same xs = ap (λ (ys : List B). g (last_or None ys)) (filter_mapped p q same xs) ∙ last_read None (filter q xs)

-- a function of both elements that does not see what f and g change
pub zip_mapped : {A B C : Type 0} (f : A → A) (g : B → B) (h : A × B → C) → ((x : A) (y : B) → h (f x, g y) ≡ h (x, y))
    → (xs : List A) (ys : List B) → map h (zip (map f xs) (map g ys)) ≡ map h (zip xs ys)
zip_mapped f g h blind [] ys = refl
zip_mapped f g h blind (x ∷ xs) [] = refl
zip_mapped f g h blind (x ∷ xs) (y ∷ ys) = ap₂ (λ z zs. z ∷ zs) (blind x y) (zip_mapped f g h blind xs ys)

-- every byte of a zeroed list is 0
pub zero_at : (xs : List ℕ) (i : ℕ) → slice_index (zeroed xs) i ≡ zero
zero_at [] i = refl
zero_at (x ∷ xs) zero = refl
zero_at (x ∷ xs) (suc i) = zero_at xs i
