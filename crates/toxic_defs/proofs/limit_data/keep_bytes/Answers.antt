use Rattle.std.proofs.Common.{refl, arith}
use Rattle.toxic_defs.proofs.LimitedParts.{limited_parts, lost_instant}
use Rattle.toxic_defs.proofs.limit_data.keep_bytes.Goals as goal

pub returns-then-left-len-clause-bytes : goal.returns-then-left-len-clause-bytes
returns-then-left-len-clause-bytes c =
    limited_parts _ _ _ _ _ _ _ _ (record {
      same = c.loop-i.invariant.same;
      part = c.index_mut-part.ensures.value;
      lt = omega arith;
      sum = c.loop-i.invariant.left;
      within = c.if-left-len.true;
    }) c.truncate.ensures.items refl

pub returns-then-left-len-clause-next : goal.returns-then-left-len-clause-next
returns-then-left-len-clause-next c =
    lost_instant _ _ _ _ _ _ (record {
      same = c.loop-i.invariant.same;
      part = c.index_mut-part.ensures.value;
      lt = omega arith;
      sum = c.loop-i.invariant.left;
      within = c.if-left-len.true;
    })
