use Rattle.std.proofs.Common.{inl, inr, arith}
use Rattle.reassembly.proofs.Merging.{upper_end, lower_end, hidden_at, added_at, ended_at, none_left}
use Rattle.reassembly.proofs.overlays.overlay.Goals as goal
use Rattle.reassembly.proofs.overlays.overlay.Goals.{then-merge-test+else-j-right, else-merge-test}

pub end-upper_end-requires : goal.end-upper_end-requires
end-upper_end-requires c = upper_end _ _ _ _ _ _ c.merge.invariant.merge _ _ c.patch_at-upper.ensures

pub end-lower_end-requires : goal.end-lower_end-requires
end-lower_end-requires c = lower_end _ _ _ _ _ _ c.merge.invariant.merge _ _ c.patch_at.ensures _ c.back-lower.ensures

pub merge-preserved-then-lower_end-upper_end : goal.merge-preserved-then-lower_end-upper_end
merge-preserved-then-lower_end-upper_end c = record {
  left_within = c.merge.invariant.left_within;
  right_within = omega arith;
  merge = hidden_at _ _ _ _ _ _ c.merge.invariant.merge _ _ c.patch_at-upper.ensures _ _ c.patch_at.ensures _ c.back-lower.ensures _ c.front-before.ensures _ c.in_ok-keep.ensures _ _ c.end-upper_end.ensures c.end-lower_end.ensures c.if-lower_end-upper_end.true;
}

pub merge-preserved : goal.merge-preserved
merge-preserved c = record {
  left_within = omega arith;
  right_within = c.merge.invariant.right_within;
  merge = added_at _ _ _ _ _ _ c.merge.invariant.merge _ _ c.patch_at-upper.ensures _ _ c.patch_at.ensures _ c.back-lower.ensures _ c.front-before.ensures _ c.in_ok-keep.ensures _ c.in_ok-add.ensures _ _ c.end-upper_end.ensures c.end-lower_end.ensures c.if-lower_end-upper_end.false;
}

pub returns-clause-same : goal.returns-clause-same
returns-clause-same c =
    elim c.merge-test.branch [
      | then-merge-test+else-j-right w ↦ (ended_at _ _ _ _ _ _ c.merge.invariant.merge (inr (none_left _ _ w.if-j-right.false)) _ c.in_ok-add_all.ensures _ c.in_ok-add_rest.ensures).same
      | else-merge-test w ↦ (ended_at _ _ _ _ _ _ c.merge.invariant.merge (inl (none_left _ _ w.merge-test.false)) _ c.in_ok-add_all.ensures _ c.in_ok-add_rest.ensures).same
    ]

pub returns-clause-ordered : goal.returns-clause-ordered
returns-clause-ordered c =
    elim c.merge-test.branch [
      | then-merge-test+else-j-right w ↦ (ended_at _ _ _ _ _ _ c.merge.invariant.merge (inr (none_left _ _ w.if-j-right.false)) _ c.in_ok-add_all.ensures _ c.in_ok-add_rest.ensures).ordered
      | else-merge-test w ↦ (ended_at _ _ _ _ _ _ c.merge.invariant.merge (inl (none_left _ _ w.merge-test.false)) _ c.in_ok-add_all.ensures _ c.in_ok-add_rest.ensures).ordered
    ]
