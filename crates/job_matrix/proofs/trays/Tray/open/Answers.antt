use Rattle.std.proofs.Common.{length, arith, ap, ◌∙◌, None}
use Rattle.std.proofs.lemmas.List.{length-replicate}
use Rattle.job_matrix.proofs.trays.Tray.open.Goals as goal

pub invariant_of-result : goal.invariant_of-result
invariant_of-result g c =
    let len = ap length c.loop.invariant ∙ length-replicate c.loop.counter None in
    (c.in_ok-room.ensures.items, omega (arith, len, c.in_ok-room.ensures.capacity))
