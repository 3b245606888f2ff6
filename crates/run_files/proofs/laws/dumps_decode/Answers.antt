use Rattle.run_files.proofs.DumpLemmas.{dump_reading-bytes}
use Rattle.run_files.proofs.laws.dumps_decode.Goals as goal

pub returns : goal.returns
returns c = dump_reading-bytes
