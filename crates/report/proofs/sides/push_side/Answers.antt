use Rattle.std.proofs.Common.{refl}
use Rattle.reassembly.specs.RecordedLines.{RecordedSide}
use Rattle.report.proofs.QuietSides.{quiet_side}
use Rattle.report.proofs.sides.push_side.Goals as goal

pub returns-then-is_quiet : goal.returns-then-is_quiet
returns-then-is_quiet c =
    let quiet = c.if-is_quiet.ensures in
    let sent : RecordedSide = record { line = c.args.recorded.now.line; lost = c.args.lost } in
    rw (quiet_side c.args.opened c.args.refused sent c.args.delivered.now.line c.if-not-refused.true (quiet.recorded refl) (quiet.lost refl) (quiet.delivered refl) (quiet.end refl)) c.push.ensures
