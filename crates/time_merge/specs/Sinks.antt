-- What the sink of a capture takes.
use Rattle.std.specs.Prelude.{◌≡◌, ◌⊎◌, ℕ, List, [], ◌++◌, take}

-- A batch was offered after `had` was taken: it was taken whole, or left as it was.
abbrev pub IsOffered : (List ℕ → Type 0) → List ℕ → List ℕ → List ℕ → Type 0
IsOffered Took had batch left = (Took (had ++ batch) × (left ≡ [])) ⊎ (Took had × (left ≡ batch))

-- All bytes are written: some were taken, and the rest comes after them.
abbrev pub IsWritten : (List ℕ → Type 0) → List ℕ → List ℕ → Type 0
IsWritten Took rest all = (front : List ℕ) × Took front × (front ++ rest ≡ all)

-- A first part of these bytes was taken, perhaps none of them.
abbrev pub HasFirstPart : (List ℕ → Type 0) → List ℕ → Type 0
HasFirstPart Took all = (count : ℕ) × Took (take count all)
