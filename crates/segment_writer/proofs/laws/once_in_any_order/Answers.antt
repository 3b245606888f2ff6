use Rattle.segment_writer.proofs.KeyCounts.{once_in_any_order}
use Rattle.segment_writer.proofs.laws.once_in_any_order.Goals as goal

pub returns : goal.returns
returns c = once_in_any_order
