-- Slices: the chunks of a line in smaller ones, as a slicer and a bandwidth make them.
use Rattle.std.specs.Prelude.{◌≡◌, ◌<◌, ◌≤◌, ℕ, ◌+◌, ◌-◌, ◌==◌, ◌||◌, true, if◌then◌else◌, List, [], ◌∷◌, ◌++◌, length, All}
use Rattle.reassembly.specs.RecordedLines.{LineByte}
use Rattle.reassembly.specs.declared.line_parts.LinePart.{LinePart}
use Rattle.toxic_defs.specs.DrawnNumbers.{drawn, GivesNext}
use Rattle.toxic_defs.specs.Limits.{greatest_attribute}
use Rattle.toxic_defs.specs.declared.slices.Sizes.{Sizes}
use Rattle.toxic_defs.specs.declared.words.Key.{Key}

-- slice k has `size k` bytes, or what is left of its chunk; `left` bytes belong to the slice before, and the next one has number k
abbrev pub sliced : (ℕ → ℕ) → ℕ → ℕ → List LineByte → List LineByte
sliced size k left [] = []
sliced size k left (b ∷ bytes) =
    if b.starts || left == 0
    then record { value = b.value; at = b.at; starts = true } ∷ sliced size (k + 1) (size k - 1) bytes
    else b ∷ sliced size k (left - 1) bytes

-- ---- sizes

-- the next size is that of slice k
pub record GivesSizes (s : Sizes) (size : ℕ → ℕ) (k : ℕ) : Type 0 where
  pub key : Key
  pub spread : ℕ
  pub next : GivesNext s.numbers key spread (1 + k)
  pub sizes : (j : ℕ) → size j ≡ s.least + drawn key spread (1 + j)

-- no size is 0 or too large to be counted
pub record AreSized (s : Sizes) : Type 0 where
  pub some : 0 < s.least
  pub small : s.least ≤ greatest_attribute
  pub spread : s.numbers.spread ≤ greatest_attribute

-- ---- by parts

abbrev pub IsFilled : LinePart → Type 0
IsFilled p = 0 < length p.bytes.now

abbrev pub AreFilled : List LinePart → Type 0
AreFilled parts = All IsFilled parts

-- `bytes`, after `before`, are cut from slice k on: `now` is cut, `rest` is not yet, the last slice still takes `more`. Any bytes may follow.
pub record CutOn (size : ℕ → ℕ) (k left : ℕ) (before bytes : List LineByte) (sizes : Sizes) (more : ℕ) (now rest : List LineByte) : Type 0 where
  pub number : ℕ
  pub gives : GivesSizes sizes size number
  pub same : (after : List LineByte) → now ++ sliced size number more (rest ++ after) ≡ before ++ sliced size k left (bytes ++ after)
