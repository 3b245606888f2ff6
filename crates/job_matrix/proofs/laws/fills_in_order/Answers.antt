use Rattle.job_matrix.proofs.FilledTrays.{filled_in_order}
use Rattle.job_matrix.proofs.laws.fills_in_order.Goals as goal

pub returns : goal.returns
returns g c = filled_in_order _
