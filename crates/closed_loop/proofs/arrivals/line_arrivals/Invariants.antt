-- The arrivals so far, and those of the parts that are left, are those of the line's bytes.
use Rattle.std.proofs.Common.{◌≡◌, ◌++◌, map, drop}
use Rattle.reassembly.specs.LineView.{bytes_of_parts}
use Rattle.reassembly.specs.RecordedLines.{LineByte}
use Rattle.closed_loop.specs.Times.{spread}
use Rattle.closed_loop.proofs.arrivals.line_arrivals.Given as goal

abbrev pub invariant-loop-part : goal.invariant-loop-part
invariant-loop-part l = spread l.out ++ map (λ (b : LineByte). b.at) (bytes_of_parts (drop l.part-index l.part-items)) ≡ map (λ (b : LineByte). b.at) l.line.line.bytes
