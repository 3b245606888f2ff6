-- A limit of bytes: a line with more is closed.
use Rattle.std.specs.Prelude.{ℕ, nat_lt, if◌then◌else◌, Option, Some, None, List, length, take, map, slice_index}
use Rattle.reassembly.specs.RecordedLines.{LineByte, Line, End, close}

-- the instant of byte n, if there is one
abbrev pub next_instant : ℕ → List LineByte → Option ℕ
next_instant n bytes = if nat_lt n (length bytes) then Some (slice_index (map (λ b. b.at) bytes) n) else None

abbrev pub limited_end : Option ℕ → End → End
limited_end None end = end
limited_end (Some at) end = close at

-- the first n bytes; a line with more is closed when the next one would have come
abbrev pub limited : ℕ → Line → Line
limited n f = record { bytes = take n f.bytes; end = limited_end (next_instant n f.bytes) f.end }
