use Rattle.std.proofs.Common.{◌≡◌, length, ◌-◌, ◌≤◌, drop}
use Rattle.reassembly.specs.Spans.{spans, limit, AreOrdered, AreNear}
use Rattle.reassembly.proofs.overlays.is_in_order.Given as goal

abbrev pub invariant-order : goal.invariant-order
invariant-order l = record {
  within : l.i ≤ length l.patches;
  near : AreNear (spans (drop l.i l.patches));
  past_near : l.past ≤ limit;
  first : l.i ≡ 0 → l.past ≡ 0;
  whole : AreOrdered l.past (spans (drop l.i l.patches)) limit → AreOrdered 0 (spans l.patches) limit;
}

abbrev pub decreases-order : goal.decreases-order
decreases-order l = length l.patches - l.i
