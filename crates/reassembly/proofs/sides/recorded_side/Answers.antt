use Rattle.reassembly.proofs.Joining.{both_ok, side_made}
use Rattle.reassembly.proofs.sides.recorded_side.Goals as goal

pub returns : goal.returns
returns c =
    both_ok c.side_line.result c.side_line.ensures.front c.side_line.ensures.value
    (λ s front value. side_made _ _ _ _ _ _ _ _ _ _ _ c.in-Some.is c.deref.ensures.value c.in_ok-patches.ensures.same c.in_ok-patches.ensures.ordered c.first_fin-fin.ensures front value)
