use Rattle.std.proofs.Common.{length, ◌-◌, ◌≡◌, ◌≤◌, drop}
use Rattle.reassembly.specs.LineView.{bytes_of_parts}
use Rattle.segment_writer.proofs.pieces.next_filled.Given as goal

abbrev pub invariant-loop-next : goal.invariant-loop-next
invariant-loop-next l = record {
  within : l.next ≤ length l.parts;
  left : bytes_of_parts (drop l.next l.parts) ≡ bytes_of_parts (drop l.from l.parts);
}

abbrev pub decreases-loop-next : goal.decreases-loop-next
decreases-loop-next l = length l.parts - l.next
