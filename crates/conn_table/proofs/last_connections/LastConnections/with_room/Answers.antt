use Rattle.std.proofs.Common.{refl, rules}
use Rattle.conn_table.proofs.LastSteps.{last_connections-none}
use Rattle.conn_table.proofs.last_connections.LastConnections.with_room.Goals as goal

pub returns-clause-last_connections : goal.returns-clause-last_connections
returns-clause-last_connections c = last_connections-none _ c.slots_for.result c.slots_for.ensures (c.in_ok-vec.ensures.items_if_clones_equal (search rules))

pub returns-clause-empty : goal.returns-clause-empty
returns-clause-empty c p = rw c.in_ok-with_capacity_and_hasher.ensures.empty refl
