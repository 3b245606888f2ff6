use Rattle.conn_table.proofs.Sides.{members_have_sides}
use Rattle.conn_table.proofs.laws.members_have_sides.Goals as goal

pub returns : goal.returns
returns c = members_have_sides
