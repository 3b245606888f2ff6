use Rattle.std.proofs.Common.{◌≡◌, ◌≤◌, ◌-◌, length}
use Rattle.worker_tests.proofs.tests.tables.from_left.Given as goal

abbrev pub invariant-cuts : goal.invariant-cuts
invariant-cuts g l = record { place : l.done.to ≡ l.at; within : l.at ≤ length l.capture.records }

abbrev pub decreases-cuts : goal.decreases-cuts
decreases-cuts g l = l.count - l.at
