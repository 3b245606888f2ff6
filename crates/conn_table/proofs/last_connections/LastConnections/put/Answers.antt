use Rattle.std.proofs.Common.{◌<◌, Some, set, ap, subst, arith}
use Rattle.conn_table.proofs.LastSteps.{last_connections-set}
use Rattle.conn_table.proofs.last_connections.LastConnections.put.Goals as goal

pub slot_of-slot-requires : goal.slot_of-slot-requires
slot_of-slot-requires c = omega (arith, c.len.ensures, c.requires.some)

pub index_mut-requires : goal.index_mut-requires
index_mut-requires c = omega (arith, c.slot_of-slot.ensures.within, c.len.ensures)

pub returns-clause-last_connections : goal.returns-clause-last_connections
returns-clause-last_connections c =
    let p = c.args.pair in
    let updates = c.in_ok-last.ensures.updates in
    let slot = c.slot_of-slot.ensures.slot in
    last_connections-set c.args.self.now _ c.len.result p c.args.current c.requires (omega (arith, c.len.ensures, c.args.self.now.recent.ok.0)) (subst (λ i. i < c.len.result) slot c.slot_of-slot.ensures.within) (ap (λ i. set c.args.self.now.recent.items i (Some (record { pair = p; current = c.args.current }))) slot) updates.1 updates.2
