use Rattle.std.proofs.Common.{◌≤◌, ◌*◌, length, sym, arith}
use Rattle.conn_workers.proofs.ShareSteps.{length-by_range, row_together}
use Rattle.conn_workers.proofs.jobs.ShareJobs.of.Goals as goal

pub invariant_of-result : goal.invariant_of-result
invariant_of-result c = record { all = c.of-ranges.ensures; each = sym (length-by_range _ _ _ _) }

pub returns : goal.returns
returns c =
    let under = c.of-under.result in
    let is = c.of-under.ensures in
    let ranges = c.of-ranges.result in
    let recordings = c.as_slice-recordings.result.now in
    let whole : length recordings ≤ ranges.count * ranges.size = omega (arith, c.of-ranges.ensures, ranges.whole) in
    rw (← is.seed, ← is.number, ← is.scenario, ← c.as_slice-recordings.ensures)
    (row_together under.seed (under.number, under.scenario.now) recordings ranges.size ranges.count whole)
