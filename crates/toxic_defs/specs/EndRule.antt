-- The rule of ends: an end that has an instant is not before the last byte.
use Rattle.std.specs.Prelude.{ℕ, max, Bool, false, nat_lt}
use Rattle.reassembly.specs.RecordedLines.{Line, End, live, fin, close, reset}
use Rattle.reassembly.specs.LineLaws.{last_instant}

abbrev pub is_before : ℕ → End → Bool
is_before at live = false
is_before at (fin m) = nat_lt m at
is_before at (close m) = nat_lt m at
is_before at (reset m) = nat_lt m at

-- an end before an instant moves to it
abbrev pub not_before : ℕ → End → End
not_before at live = live
not_before at (fin m) = fin (max m at)
not_before at (close m) = close (max m at)
not_before at (reset m) = reset (max m at)

abbrev pub ended : Line → Line
ended l = record { bytes = l.bytes; end = not_before (last_instant 0 l.bytes) l.end }
