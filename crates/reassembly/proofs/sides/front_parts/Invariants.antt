use Rattle.std.proofs.Common.{length, ◌-◌, ◌≤◌, drop}
use Rattle.reassembly.specs.LineView.{bytes_of_parts}
use Rattle.reassembly.specs.Spans.{spans, first_byte}
use Rattle.reassembly.proofs.Walks.{Walk}
use Rattle.reassembly.proofs.sides.front_parts.Given as goal

abbrev pub invariant-walk : goal.invariant-walk
invariant-walk l = record {
  within : l.i ≤ length l.patches;
  walk : Walk (first_byte (spans l.patches)) l.stop l.len l.latest (bytes_of_parts l.parts.items) (spans (drop l.i l.patches));
}

abbrev pub decreases-walk : goal.decreases-walk
decreases-walk l = length l.patches - l.i
