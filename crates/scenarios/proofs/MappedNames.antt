-- A test of mapped elements is one of the elements, and std's test of digits is one of all bytes.
use Rattle.std.proofs.Common.{◌≡◌, ℕ, ◌||◌, ◌&&◌, Bool, List, [], ◌∷◌, map, refl, ap}
use Rattle.std.specs.Char.{is_ascii_digit}
use Rattle.std.specs.List.{list_all, list_any}
use Rattle.std.specs.Str.{all_ascii_digits}

pub any_mapped : {X Y : Type 0} (p : Y → Bool) (h : X → Y) (xs : List X) → list_any p (map h xs) ≡ list_any (λ x. p (h x)) xs
any_mapped p h [] = refl
any_mapped p h (x ∷ xs) = ap (λ b. p (h x) || b) (any_mapped p h xs)

pub digits_are_all : (text : List ℕ) → list_all is_ascii_digit text ≡ all_ascii_digits text
digits_are_all [] = refl
digits_are_all (c ∷ text) = ap (λ b. is_ascii_digit c && b) (digits_are_all text)
