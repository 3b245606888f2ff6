use Rattle.disks.proofs.FolderPaths.{drafts_are_named}
use Rattle.disks.proofs.laws.drafts_are_named.Goals as goal

pub returns : goal.returns
returns c = drafts_are_named
