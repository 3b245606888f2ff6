use Rattle.conn_table.proofs.RangeSteps.{joins_agree}
use Rattle.conn_table.proofs.laws.joins_agree.Goals as goal

pub returns : goal.returns
returns c = joins_agree
