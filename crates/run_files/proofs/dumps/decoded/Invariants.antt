use Rattle.std.proofs.Common.{◌≡◌, ◌*◌, length}
use Rattle.hex.proofs.Pairs.{prepend}
use Rattle.run_files.specs.{decode_pairs, without_blanks}
use Rattle.run_files.proofs.dumps.decoded.Given as goal

-- the bytes so far, and those of the digits that are left, are all
abbrev pub invariant-pairs : goal.invariant-pairs
invariant-pairs l = decode_pairs 0 (without_blanks l.text) ≡ prepend l.bytes.items (decode_pairs (2 * length l.bytes.items) (without_blanks l.rest))

abbrev pub decreases-pairs : goal.decreases-pairs
decreases-pairs l = length l.rest
