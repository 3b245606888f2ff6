use Rattle.std.proofs.Common.{length, ◌-◌, ◌≤◌, ◌+◌, drop}
use Rattle.reassembly.specs.Spans.{spans}
use Rattle.reassembly.proofs.Merging.{Merge}
use Rattle.reassembly.proofs.overlays.overlay.Given as goal

abbrev pub invariant-merge : goal.invariant-merge
invariant-merge l = record {
  left_within : l.i ≤ length l.left;
  right_within : l.j ≤ length l.right;
  merge : Merge (spans l.left) (spans l.right) (spans l.merged.items) (spans (drop l.i l.left)) (spans (drop l.j l.right)) l.floor;
}

abbrev pub decreases-merge : goal.decreases-merge
decreases-merge l = length l.left - l.i + (length l.right - l.j)
