use Rattle.worker_tests.proofs.WrittenLists.{AreWritten}
use Rattle.worker_tests.proofs.tests.merging.written.Given as goal

abbrev pub invariant-loop-number : goal.invariant-loop-number
invariant-loop-number g l = AreWritten l.capture.ticks l.lists.items l.number-counter
