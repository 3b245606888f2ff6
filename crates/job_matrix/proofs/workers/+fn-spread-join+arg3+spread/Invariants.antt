use Rattle.std.proofs.Common.{◌-◌}
use Rattle.job_matrix.proofs.workers.+fn-spread-join+arg3+spread.Given as goal

abbrev pub decreases-join+arg3 : goal.decreases-join+arg3
decreases-join+arg3 g l = l.workers - 1

abbrev pub decreases-spread : goal.decreases-spread
decreases-spread g l = l.workers
