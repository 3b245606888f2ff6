use Rattle.run_files.specs.{HoldsPairs}
use Rattle.run_files.proofs.dumps.hex_pairs.Given as goal

abbrev pub invariant-highs : goal.invariant-highs
invariant-highs l = HoldsPairs l.pairs.items

abbrev pub invariant-lows : goal.invariant-lows
invariant-lows l = HoldsPairs l.pairs.items
