-- How far a pass over the parts of a line is, and what was acknowledged of the peer's line before an instant.
use Rattle.std.specs.Prelude.{◌≡◌, ◌≤◌, ◌<◌, ℕ, ◌||◌, not, Bool, true, false, List, [], ◌∷◌, length, filter, drop, take, nat_lt}
use Rattle.std.specs.List.{AllByRecursion}
use Rattle.reassembly.specs.RecordedLines.{LineByte}
use Rattle.reassembly.specs.LineView.{bytes_of_parts}
use Rattle.reassembly.specs.declared.line_parts.LinePart.{LinePart}
use Rattle.segment_writer.specs.FirstPieces.{values}
use Rattle.segment_writer.specs.declared.pieces.Cursor.{Cursor}
use Rattle.segment_writer.specs.declared.turns.Acknowledged.{Acknowledged}

-- ---- in the line that is written

-- the bytes from a cursor on
abbrev pub left_at : List LinePart → Cursor → List LineByte
left_at parts c = drop c.offset (bytes_of_parts (drop c.part parts))

-- a byte of the first part follows the offset, or the cursor is after all parts
abbrev pub IsInside : List LinePart → ℕ → Type 0
IsInside [] offset = offset ≡ 0
IsInside (p ∷ ps) offset = offset < length p.bytes.now

pub record IsCursor (parts : List LinePart) (c : Cursor) : Type 0 where
  pub within : c.part ≤ length parts
  pub inside : IsInside (drop c.part parts) c.offset

-- these bytes are the next ones from a cursor on, and the other cursor comes after them
pub record IsPassed (parts : List LinePart) (c : Cursor) (passed : List ℕ) (after : Cursor) : Type 0 where
  pub cursor : IsCursor parts after
  pub bytes : passed ≡ values (take (length passed) (left_at parts c))
  pub left : left_at parts after ≡ drop (length passed) (left_at parts c)

abbrev pub has_none : List ℕ → Bool
has_none [] = true
has_none (x ∷ xs) = false

-- no chunk starts with a part's bytes: it is not marked, or there are none
abbrev pub goes_on : LinePart → Bool
goes_on p = not p.starts || has_none p.bytes.now

-- ---- in the line that is acknowledged

abbrev pub bytes_before : ℕ → List LineByte → ℕ
bytes_before at bytes = length (filter (λ b. nat_lt b.at at) bytes)

pub record IsAcknowledged (parts : List LinePart) (h : Acknowledged) (at : ℕ) : Type 0 where
  pub within : h.part ≤ length parts
  pub count : h.bytes ≡ length (bytes_of_parts (take h.part parts))
  pub before : AllByRecursion (λ b. b.at < at) (bytes_of_parts (take h.part parts))
