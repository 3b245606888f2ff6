use Rattle.std.proofs.Common.{refl}
use Rattle.conn_table.proofs.Growths.{grown-none}
use Rattle.conn_table.proofs.growth.Growth.of_none.Goals as goal

pub returns : goal.returns
returns c = grown-none _ c.in_ok-with_capacity.ensures.items refl c.in_ok-with_room.ensures.last_connections c.in_ok-with_room.ensures.empty
