use Rattle.std.proofs.Common.{◌≡◌, take}
use Rattle.job_matrix.proofs.workers.work_alone.Given as goal

abbrev pub invariant-loop-job : goal.invariant-loop-job
invariant-loop-job g l = record {
  values : l.values.items ≡ take l.job (g.W.Work.values l.work);
}
