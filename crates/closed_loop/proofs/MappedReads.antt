-- Reads of lists that are mapped.
use Rattle.std.proofs.Common.{◌≡◌, ◌∙◌, ap, refl, ℕ, zero, suc, List, [], ◌∷◌, ◌++◌, length, map, ◌⊎◌, inl, inr, Option, Some, None, unwrap_or}
use Rattle.std.specs.List.{slice_get}
use Rattle.std.specs.Option.{option_map_or, option_and_then, option_flatten}
use Rattle.closed_loop.specs.Openings.{SessionView, end_time, last_time}

read_flat : (f : SessionView → Option ℕ) (xs : List SessionView) (n : ℕ) → option_flatten (slice_get (map f xs) n) ≡ option_and_then f (slice_get xs n)
read_flat f [] n = refl
read_flat f (x ∷ xs) zero = refl
read_flat f (x ∷ xs) (suc n) = read_flat f xs n

read_or : (f : SessionView → ℕ) (xs : List SessionView) (n : ℕ) → unwrap_or (slice_get (map f xs) n) 0 ≡ option_map_or f (slice_get xs n) 0
read_or f [] n = refl
read_or f (x ∷ xs) zero = refl
read_or f (x ∷ xs) (suc n) = read_or f xs n

pub end_read : (times : List (Option ℕ)) (xs : List SessionView) (n : ℕ)
    → option_flatten (slice_get (map (end_time times) xs) n) ≡ option_and_then (end_time times) (slice_get xs n)
end_read times xs n = read_flat (end_time times) xs n

pub last_read : (times : List (Option ℕ)) (xs : List SessionView) (n : ℕ)
    → unwrap_or (slice_get (map (last_time times) xs) n) 0 ≡ option_map_or (last_time times) (slice_get xs n) 0
last_read times xs n = read_or (last_time times) xs n

-- ---- pushed

pub some_is : {X : Type 0} (a b : X) → Some a ≡ Some b → a ≡ b
some_is a b is = cc

pub pushed_at : {X : Type 0} (xs : List X) (x : X) (i : ℕ) (y : X) → slice_get (xs ++ x ∷ []) i ≡ Some y → (slice_get xs i ≡ Some y) ⊎ ((i ≡ length xs) × (x ≡ y))
pushed_at [] x zero y is = inr (refl, some_is x y is)
pushed_at [] x (suc i) y is = absurd cc
pushed_at (z ∷ xs) x zero y is = inl is
pushed_at (z ∷ xs) x (suc i) y is = by_case (pushed_at xs x i y is)
  where
    by_case : (slice_get xs i ≡ Some y) ⊎ ((i ≡ length xs) × (x ≡ y)) → (slice_get xs i ≡ Some y) ⊎ ((suc i ≡ suc (length xs)) × (x ≡ y))
    by_case (inl old) = inl old
    by_case (inr new) = inr (ap suc new.0, new.1)
