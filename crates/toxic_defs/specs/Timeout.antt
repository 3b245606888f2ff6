-- A timeout: no bytes, and a close after the opening, or none.
use Rattle.std.specs.Prelude.{ℕ, zero, suc, []}
use Rattle.reassembly.specs.RecordedLines.{Line, End, live, close}

-- a close at `at`, or none if the time is 0
abbrev pub end_after : ℕ → ℕ → End
end_after zero at = live
end_after (suc time) at = close at

abbrev pub timed_out : ℕ → ℕ → Line
timed_out time at = record { bytes = []; end = end_after time at }
