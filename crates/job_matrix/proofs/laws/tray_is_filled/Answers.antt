use Rattle.job_matrix.proofs.Worlds.{tray_is_filled}
use Rattle.job_matrix.proofs.laws.tray_is_filled.Goals as goal

pub returns : goal.returns
returns g c = tray_is_filled _
