-- The runs so far come before the number.
use Rattle.std.proofs.Common.{◌-◌, length}
use Rattle.closed_loop.specs.Times.{IsPassed}
use Rattle.closed_loop.proofs.arrivals.Arrivals.passed.Given as goal

abbrev pub invariant-runs : goal.invariant-runs
invariant-runs l = IsPassed l.self l.runs l.number

abbrev pub decreases-runs : goal.decreases-runs
decreases-runs l = length l.self - l.runs
