use Rattle.std.proofs.Common.{ℕ, ◌+◌, ◌*◌, sym, arith}
use Rattle.std.proofs.lemmas.List.FromFn.{length-map-range_with_len, get_or-map-range_with_len}
use Rattle.worker_tests.proofs.tests.workers.TripledWork.value.Goals as goal

pub overflow_mul-result : goal.overflow_mul-result
overflow_mul-result c =
    omega (arith, c.requires, c.args.self.now.few, length-map-range_with_len (λ (job : ℕ). 3 * job + 1) 0 c.args.self.now.count)

pub overflow_add-result : goal.overflow_add-result
overflow_add-result c =
    omega (arith, c.requires, c.args.self.now.few, length-map-range_with_len (λ (job : ℕ). 3 * job + 1) 0 c.args.self.now.count)

pub returns : goal.returns
returns c = λ other.
    let count = length-map-range_with_len (λ (job : ℕ). 3 * job + 1) 0 c.args.self.now.count in
    sym (get_or-map-range_with_len (λ (job : ℕ). 3 * job + 1) 0 c.args.self.now.count c.args.job c.args.job other (omega (arith, c.requires, count)) (omega arith))
