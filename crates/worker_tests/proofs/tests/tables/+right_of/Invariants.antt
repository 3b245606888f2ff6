use Rattle.std.proofs.Common.{◌-◌, length}
use Rattle.worker_tests.proofs.tests.tables.+right_of.Given as goal

abbrev pub decreases-right_of : goal.decreases-right_of
decreases-right_of g l = length l.capture.now.records - l.at
