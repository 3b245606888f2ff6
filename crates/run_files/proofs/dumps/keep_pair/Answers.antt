use Rattle.std.proofs.Common.{arith, sym}
use Rattle.run_files.proofs.DumpLemmas.{holds-more}
use Rattle.run_files.proofs.dumps.keep_pair.Goals as goal

pub returns-then-at-pairs : goal.returns-then-at-pairs
returns-then-at-pairs c = holds-more _ c.args.high c.args.low _ c.in-Ok.byte c.if-at-pairs.true (sym c.in-Ok.ensures) c.requires (omega arith) (omega arith)
