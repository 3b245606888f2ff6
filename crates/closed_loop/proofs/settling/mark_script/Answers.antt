use Rattle.std.proofs.Common.{◌≡◌, ◌⊎◌, ◌==◌, ◌||◌, ℕ, List, take, true, Some, ap, subst, ◌∙◌}
use Rattle.std.specs.List.{list_any, slice_get}
use Rattle.std.proofs.lemmas.List.{take_all}
use Rattle.closed_loop.specs.declared.packets.Packet.{Packet}
use Rattle.closed_loop.specs.Scripts.{ScriptView}
use Rattle.closed_loop.proofs.settling.mark_script.Goals as goal

pub returns-clause-marked : goal.returns-clause-marked
returns-clause-marked c = λ i h.
    let script : ScriptView = c.args.script.now in
    let all : take c.loop-packet.packet-index c.deref-packet-items.result.now ≡ script.packets
    = take_all c.loop-packet.packet-index c.deref-packet-items.result.now c.loop-packet-test.false ∙ c.deref-packet-items.ensures.value ∙ ap (λ (s : ScriptView). s.packets) c.script.view_is in
    subst (λ (ps : List Packet). (slice_get c.args.taken.now.items i ≡ Some true) ⊎ ((script.opening == i || list_any (λ (q : Packet). q.number == i) ps) ≡ true))
    all (c.loop-packet.invariant.marked i h)
