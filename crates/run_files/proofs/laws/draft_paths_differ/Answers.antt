use Rattle.run_files.proofs.StoredFiles.{paths_differ}
use Rattle.run_files.proofs.laws.draft_paths_differ.Goals as goal

pub returns : goal.returns
returns c = paths_differ
