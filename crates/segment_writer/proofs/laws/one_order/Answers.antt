use Rattle.segment_writer.proofs.OneOrderLaw.{one_order}
use Rattle.segment_writer.proofs.laws.one_order.Goals as goal

pub returns : goal.returns
returns c = one_order
