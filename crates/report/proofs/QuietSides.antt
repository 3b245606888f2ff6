-- The text of a direction that has no bytes and stays open.
use Rattle.std.proofs.Common.{◌≡◌, ℕ, Bool, false, [], codes, refl, arith}
use Rattle.std.proofs.lemmas.Fmt.{decimal_digit}
use Rattle.reassembly.specs.RecordedLines.{Line, live, RecordedSide}
use Rattle.report.specs.ReportText.{side_text}

pub quiet_side : (opened : ℕ) (refused : Bool) (s : RecordedSide) (f : Line) → refused ≡ false → s.line.bytes ≡ [] → s.lost ≡ 0 → f.bytes ≡ [] → f.end ≡ live
    → side_text opened refused s f ≡ codes "0/0/0 open max 0"
quiet_side opened refused s f a b c d e = rw (a, b, c, d, e, decimal_digit 0 (omega arith)) refl
