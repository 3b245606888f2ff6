use Rattle.std.proofs.Common.{rules}
use Rattle.run_files.proofs.StoredFiles.{padded_is_four_digits}
use Rattle.run_files.proofs.outputs.file_name.Goals as goal

pub returns : goal.returns
returns c = search (rules, padded_is_four_digits)
