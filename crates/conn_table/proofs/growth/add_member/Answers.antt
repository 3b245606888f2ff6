use Rattle.conn_table.proofs.Growths.{grown_at-set}
use Rattle.conn_table.proofs.growth.add_member.Goals as goal

pub returns : goal.returns
returns c = rw c.in_ok-push.ensures (grown_at-set c.args.number c.args.member c.args.conns.now.items c.index_mut.result.now c.requires c.index_mut.ensures.value)
