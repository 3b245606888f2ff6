use Rattle.std.proofs.Common.{length, ◌+◌, ◌-◌}
use Rattle.report.proofs.ByteRuns.{Walk}
use Rattle.report.proofs.sides.longest_delay.Given as goal

abbrev pub invariant-runs : goal.invariant-runs
invariant-runs l = Walk l.recorded l.delivered l.from l.to l.longest

abbrev pub decreases-runs : goal.decreases-runs
decreases-runs l = (length l.recorded - l.from.part) + (length l.delivered - l.to.part)
