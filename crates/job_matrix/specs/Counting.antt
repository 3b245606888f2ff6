-- How often a number stands in a list, and sums over a list.
use Rattle.std.specs.Prelude.{◌≡◌, ◌+◌, ◌<◌, ◌≤◌, ◌==◌, ℕ, List, [], ◌∷◌, if◌then◌else◌}

abbrev pub times : ℕ → List ℕ → ℕ
times x [] = 0
times x (y ∷ ys) = (if x == y then 1 else 0) + times x ys

abbrev pub total : {A : Type 0} → (A → ℕ) → List A → ℕ
total f [] = 0
total f (x ∷ xs) = f x + total f xs

-- each number below the bound is counted once, and no other at all
abbrev pub CountsBelow : ℕ → (ℕ → ℕ) → Type 0
CountsBelow bound count = (x : ℕ) → (x < bound → count x ≡ 1) × (bound ≤ x → count x ≡ 0)
