use Rattle.disks.proofs.PublishedFiles.{leave_whole}
use Rattle.disks.proofs.laws.publishing_leaves_whole.Goals as goal

pub returns : goal.returns
returns c = leave_whole
