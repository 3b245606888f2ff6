use Rattle.toxic_defs.proofs.CutLines.{cut_lines_delay}
use Rattle.toxic_defs.proofs.laws.cut_lines_delay.Goals as goal

pub returns : goal.returns
returns c = cut_lines_delay
