-- A slow close: a FIN and a close come later.
use Rattle.std.specs.Prelude.{ℕ, ◌+◌, min}
use Rattle.reassembly.specs.RecordedLines.{Line, End, live, fin, close, reset}

-- later by `delay`, at the limit at most; a reset stays
abbrev pub slow_end : ℕ → ℕ → End → End
slow_end limit delay live = live
slow_end limit delay (fin at) = fin (min (at + delay) limit)
slow_end limit delay (close at) = close (min (at + delay) limit)
slow_end limit delay (reset at) = reset at

abbrev pub slow_line : ℕ → ℕ → Line → Line
slow_line limit delay f = record { bytes = f.bytes; end = slow_end limit delay f.end }
