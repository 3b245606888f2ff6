use Rattle.conn_table.proofs.TableForms.{indexed_connections_agree}
use Rattle.conn_table.proofs.laws.indexed_connections_agree.Goals as goal

pub returns : goal.returns
returns c = indexed_connections_agree
