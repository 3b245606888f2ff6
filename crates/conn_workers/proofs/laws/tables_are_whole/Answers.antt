use Rattle.conn_workers.proofs.RowLemmas.{tables_are_whole}
use Rattle.conn_workers.proofs.laws.tables_are_whole.Goals as goal

pub returns : goal.returns
returns c = tables_are_whole c.indexed_connections_agree.ensures
