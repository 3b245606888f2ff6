use Rattle.job_matrix.proofs.Worlds.{any_order}
use Rattle.job_matrix.proofs.laws.any_order.Goals as goal

pub returns : goal.returns
returns g c = any_order _
