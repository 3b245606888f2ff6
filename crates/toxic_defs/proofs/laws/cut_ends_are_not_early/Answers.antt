use Rattle.toxic_defs.proofs.CutLines.{cut_ends_are_not_early}
use Rattle.toxic_defs.proofs.laws.cut_ends_are_not_early.Goals as goal

pub returns : goal.returns
returns c = cut_ends_are_not_early
