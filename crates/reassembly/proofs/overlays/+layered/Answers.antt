use Rattle.std.proofs.Common.{rules, ◌∙◌}
use Rattle.std.proofs.lemmas.Result.{IfOk-weaker}
use Rattle.reassembly.proofs.Merging.{near_take, near_drop, gathered_same}
use Rattle.reassembly.proofs.overlays.+layered.Goals as goal

pub layered-requires : goal.layered-requires
layered-requires t c = (search rules, rw c.split_at.ensures.front (near_take _ _ c.requires))

pub layered-requires-2 : goal.layered-requires-2
layered-requires-2 t c = (search rules, rw c.split_at.ensures.back (near_drop _ _ c.requires))

pub returns-clause-same : goal.returns-clause-same
returns-clause-same t c =
    IfOk-weaker c.overlay.result _ _ (λ v e x. e x ∙ gathered_same _ _ _ _ _ _ _ _ c.split_at.ensures.front c.split_at.ensures.back c.in_ok-left.ensures.same c.in_ok-right.ensures.same c.deref.ensures.value c.deref-2.ensures.value x) c.overlay.ensures.same
