use Rattle.std.proofs.Common.{◌≡◌, ◌++◌, replicate, None}
use Rattle.job_matrix.specs.Trays.{put_each}
use Rattle.job_matrix.proofs.workers.put_in_order.Given as goal

abbrev pub invariant-loop-job : goal.invariant-loop-job
invariant-loop-job g l = record {
  filled : l.tray ≡ put_each (replicate l.count None) l.yielded;
  whole : l.yielded ++ l.job-iterator.rest.items ≡ l.fn.done.items;
}
