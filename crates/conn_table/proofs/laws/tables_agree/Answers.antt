use Rattle.conn_table.proofs.TableForms.{tables_agree}
use Rattle.conn_table.proofs.laws.tables_agree.Goals as goal

pub returns : goal.returns
returns c = tables_agree
