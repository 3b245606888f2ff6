-- A reset by a peer: the bytes before an instant, and a reset then.
use Rattle.std.specs.Prelude.{ℕ, nat_lt, if◌then◌else◌, filter}
use Rattle.reassembly.specs.RecordedLines.{Line, reset}
use Rattle.toxic_defs.specs.EndRule.{is_before}

-- the bytes before `at`; a line that has not ended by then is reset
abbrev pub reset_at : ℕ → Line → Line
reset_at at f = record {
  bytes = filter (λ b. nat_lt b.at at) f.bytes;
  end = if is_before at f.end then f.end else reset at;
}
