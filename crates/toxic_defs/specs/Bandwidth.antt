-- Bandwidth: each chunk in slices of 100 milliseconds, which leave when the wire has taken their last byte.
use Rattle.std.specs.Prelude.{ℕ, ◌+◌, ◌-◌, ◌*◌, ◌/◌, min, if◌then◌else◌, List, [], ◌∷◌, ◌++◌, length, Option, Some, None, unwrap_or}
use Rattle.pcap_records.specs.Instants.{horizon, millisecond}
use Rattle.reassembly.specs.RecordedLines.{LineByte, Line}
use Rattle.reassembly.specs.LineView.{bytes_of_part}
use Rattle.reassembly.specs.declared.line_parts.LinePart.{LinePart}
use Rattle.toxic_defs.specs.DelayedBytes.{latest, instants_of, at_instant, moved}
use Rattle.toxic_defs.specs.Slices.{sliced}

abbrev pub ceiling : ℕ → ℕ → ℕ
ceiling n d = (n + (d - 1)) / d

-- Each byte holds the wire for 1/`rate` of a millisecond, which has `ticks` ticks here, after its instant and the bytes before it. Only the sum is
-- rounded up.
abbrev pub bandwidth_leaves : ℕ → ℕ → ℕ → List LineByte → ℕ
bandwidth_leaves limit ticks rate bytes =
    latest (λ y at. min (at + ceiling ((length bytes - y) * ticks) rate) limit) (instants_of bytes)

-- every chunk leaves when its last byte does
abbrev pub joined : LineByte → List LineByte → LineByte
joined b [] = b
joined b (next ∷ bytes) = if next.starts then b else at_instant next.at b

abbrev pub settled : List LineByte → List LineByte
settled [] = []
settled (b ∷ bytes) = joined b (settled bytes) ∷ settled bytes

-- in milliseconds
abbrev pub slice_time : ℕ
slice_time = 100

-- each slice has the same size; a rate is in KB a second, which are bytes a millisecond
abbrev pub rated_size : ℕ → ℕ → ℕ
rated_size rate k = slice_time * rate

abbrev pub rated_bytes : ℕ → ℕ → List LineByte → List LineByte
rated_bytes ticks rate bytes =
    settled (moved (bandwidth_leaves (horizon ticks) (millisecond ticks) rate) (sliced (rated_size rate) 0 0 bytes))

abbrev pub rated_line : ℕ → ℕ → Line → Line
rated_line ticks rate f = record { bytes = rated_bytes ticks rate f.bytes; end = f.end }

-- ---- the same by parts

abbrev pub part_at : ℕ → LinePart → LinePart
part_at at p = record { at = at; starts = p.starts; bytes = p.bytes }

-- each part, after the bytes `before`, at the instant that `leaves` gives for the bytes up to its last
abbrev pub charged : (List LineByte → ℕ) → List LineByte → List LinePart → List LinePart
charged leaves before [] = []
charged leaves before (p ∷ parts) =
    part_at (leaves (before ++ bytes_of_part p)) p ∷ charged leaves (before ++ bytes_of_part p) parts

-- the instant of the first of some parts, unless a chunk starts with it
abbrev pub going_on : List LinePart → Option ℕ
going_on [] = None
going_on (p ∷ parts) = if p.starts then None else Some p.at

-- a part whose chunk goes on after it leaves with the rest of it
abbrev pub settled_parts : List LinePart → List LinePart
settled_parts [] = []
settled_parts (p ∷ parts) = part_at (unwrap_or (going_on (settled_parts parts)) p.at) p ∷ settled_parts parts
