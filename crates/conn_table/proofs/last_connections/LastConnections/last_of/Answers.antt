use Rattle.std.proofs.Common.{◌∙◌, ◌<◌, Some, set, refl, sym, ap, subst, arith}
use Rattle.conn_table.proofs.LastSteps.{last-found, last_connections-set}
use Rattle.conn_table.proofs.last_connections.LastConnections.last_of.Goals as goal

pub slot_of-slot-requires : goal.slot_of-slot-requires
slot_of-slot-requires c = omega (arith, c.len.ensures, c.requires.some)

pub index-requires : goal.index-requires
index-requires c = omega (arith, c.slot_of-slot.ensures.within, c.len.ensures)

pub returns-then-is_some-clause-last : goal.returns-then-is_some-clause-last
returns-then-is_some-clause-last c =
    last-found c.args.self.now c.args.pair c.slot_of-slot.result c.index.result.now _ c.requires (omega (arith, c.slot_of-slot.ensures.within, c.len.ensures)) c.index.ensures c.current_in-recent.ensures (sym c.is_some.ensures ∙ c.if-is_some.true)

pub index_mut-requires : goal.index_mut-requires
index_mut-requires c = omega (arith, c.slot_of-slot.ensures.within, c.len.ensures)

pub returns-in-Some-clause-last_connections : goal.returns-in-Some-clause-last_connections
returns-in-Some-clause-last_connections c =
    let slot = c.slot_of-slot.ensures.slot in
    let last = sym (c.copied-last.ensures ∙ c.get.ensures.value) ∙ c.in-Some.is in
    last_connections-set c.args.self.now _ c.len.result c.args.pair c.in-Some.current c.requires (omega (arith, c.len.ensures, c.args.self.now.recent.ok.0)) (subst (λ i. i < c.len.result) slot c.slot_of-slot.ensures.within) (ap (λ i. set c.args.self.now.recent.items i (Some (record { pair = c.args.pair; current = c.in-Some.current }))) slot) last (λ q apart. refl)

pub returns-in_default-clause-last_connections : goal.returns-in_default-clause-last_connections
returns-in_default-clause-last_connections c = c.requires
