use Rattle.std.proofs.Common.{◌≡◌, length, take}
use Rattle.reassembly.specs.LineView.{bytes_of_parts}
use Rattle.report.proofs.sides.byte_count.Given as goal

abbrev pub invariant-loop-part : goal.invariant-loop-part
invariant-loop-part l = l.count ≡ length (bytes_of_parts (take l.part-index l.parts))
