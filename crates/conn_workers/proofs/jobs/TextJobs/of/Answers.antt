use Rattle.std.proofs.Common.{◌≤◌, ◌*◌, length, sym, arith}
use Rattle.conn_workers.specs.Recordings.{recordings_of}
use Rattle.conn_workers.proofs.ShareSteps.{length-by_range, texts_together}
use Rattle.conn_workers.proofs.jobs.TextJobs.of.Goals as goal

pub invariant_of-result : goal.invariant_of-result
invariant_of-result c = record { all = c.of-ranges.ensures; few = c.requires.few; each = sym (length-by_range _ _ _ _) }

pub returns : goal.returns
returns c =
    let recordings = recordings_of c.of-lines.result.capture.now in
    let ranges = c.of-ranges.result in
    let whole : length recordings ≤ ranges.count * ranges.size = omega (arith, c.of-ranges.ensures, ranges.whole, c.of-lines.result.each) in
    rw (← c.of-lines.ensures) (texts_together c.args.seed c.args.scenarios.now ranges.size ranges.count recordings whole)
