use Rattle.std.proofs.Common.{refl}
use Rattle.run_files.specs.{digits, fault_text}
use Rattle.run_files.proofs.fault_lines.memory_line.Goals as goal

pub returns : goal.returns
unfolding fault_text digits
returns c = refl
