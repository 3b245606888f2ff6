use Rattle.std.proofs.Common.{◌≡◌, ◌≤◌, ◌+◌, ◌-◌, length, drop}
use Rattle.std.specs.List.{sum_by}
use Rattle.reassembly.specs.Spans.{spans, limit, AreOrdered}
use Rattle.reassembly.specs.SideLines.{len_of}
use Rattle.reassembly.proofs.sides.count_bytes.Given as goal

abbrev pub invariant-count : goal.invariant-count
invariant-count l = record {
  within : l.i ≤ length l.patches;
  rest : AreOrdered l.count (spans (drop l.i l.patches)) limit;
  total : l.count + sum_by len_of (spans (drop l.i l.patches)) ≡ sum_by len_of (spans l.patches);
}

abbrev pub decreases-count : goal.decreases-count
decreases-count l = length l.patches - l.i
