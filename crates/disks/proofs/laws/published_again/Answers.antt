use Rattle.disks.proofs.PublishedFiles.{again}
use Rattle.disks.proofs.laws.published_again.Goals as goal

pub returns : goal.returns
returns c = again
