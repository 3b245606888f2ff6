use Rattle.std.proofs.Common.{rules, subst, sym}
use Rattle.run_files.specs.{HoldsPairs}
use Rattle.run_files.proofs.DumpLemmas.{holds-none}
use Rattle.run_files.proofs.dumps.no_pairs.Goals as goal

pub returns : goal.returns
returns c = subst HoldsPairs (sym (c.in_ok-vec.ensures.items_if_clones_equal (search rules))) (holds-none 65536)
