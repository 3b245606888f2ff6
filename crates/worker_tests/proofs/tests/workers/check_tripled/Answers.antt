use Rattle.std.proofs.Common.{ℕ, ◌+◌, ◌*◌, sym, arith}
use Rattle.std.proofs.lemmas.List.FromFn.{length-map-range_with_len}
use Rattle.worker_tests.proofs.tests.workers.check_tripled.Goals as goal

pub work_all-values-requires-clause-jobs : goal.work_all-values-requires-clause-jobs
work_all-values-requires-clause-jobs g c =
    let is = sym (length-map-range_with_len (λ (job : ℕ). 3 * job + 1) 0 c.args.count) in
    omega (arith, is)
