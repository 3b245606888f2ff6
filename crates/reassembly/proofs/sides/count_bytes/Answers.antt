use Rattle.std.proofs.Common.{◌≤◌, ◌+◌, length, arith}
use Rattle.reassembly.specs.Spans.{limit}
use Rattle.reassembly.proofs.Counting.{count_fits, count_more, total_more}
use Rattle.reassembly.proofs.sides.count_bytes.Goals as goal

pub overflow_add-count : goal.overflow_add-count
overflow_add-count c =
    let h : c.count.count + length c.patch_at-patch.result.bytes.now ≤ limit = count_fits _ _ _ _ c.count.invariant.rest c.patch_at-patch.ensures in omega arith

pub count-preserved : goal.count-preserved
count-preserved c = record {
  within = omega arith;
  rest = count_more _ _ _ _ c.count.invariant.rest c.patch_at-patch.ensures;
  total = total_more _ _ _ _ _ c.count.invariant.total c.patch_at-patch.ensures;
}
