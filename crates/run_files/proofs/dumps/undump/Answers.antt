use Rattle.run_files.proofs.DumpLemmas.{dump_reading-decoded}
use Rattle.run_files.proofs.dumps.undump.Goals as goal

pub returns-in-Ok : goal.returns-in-Ok
returns-in-Ok c = dump_reading-decoded _ _ c.in-Ok.ensures
