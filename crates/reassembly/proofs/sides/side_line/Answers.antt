use Rattle.std.proofs.Common.{arith}
use Rattle.reassembly.proofs.Counting.{front_within}
use Rattle.reassembly.proofs.sides.side_line.Goals as goal

pub overflow_sub-lost : goal.overflow_sub-lost
overflow_sub-lost c = let h = front_within _ _ _ c.requires c.in_ok-parts.ensures.front in omega (arith, c.count_bytes-all.ensures, h)
