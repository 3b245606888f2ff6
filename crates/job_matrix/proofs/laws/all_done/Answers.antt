use Rattle.job_matrix.proofs.Worlds.{all_done}
use Rattle.job_matrix.proofs.laws.all_done.Goals as goal

pub returns : goal.returns
returns g c = all_done _
