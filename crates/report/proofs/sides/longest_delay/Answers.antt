use Rattle.report.proofs.ByteRuns.{walk_on, recorded_ends, delivered_ends}
use Rattle.report.proofs.sides.longest_delay.Goals as goal

pub runs-preserved : goal.runs-preserved
runs-preserved c =
    rw (c.cursor_after-from.ensures, c.cursor_after-to.ensures)
    (walk_on _ _ _ _ _ _ _ c.index-recorded-from.result c.index-delivered-to.result c.runs.invariant c.runs-test.true c.if-to-delivered.true
    c.index-recorded-from.is c.index-delivered-to.is c.min-run.ensures c.longer-longest.ensures)

pub returns-else-to-delivered : goal.returns-else-to-delivered
returns-else-to-delivered c = delivered_ends _ _ _ _ _ c.runs.invariant c.if-to-delivered.false

pub returns-after-runs : goal.returns-after-runs
returns-after-runs c = recorded_ends _ _ _ _ _ c.runs.invariant c.runs-test.false
