use Rattle.std.proofs.Common.{refl, ap, arith}
use Rattle.reassembly.specs.LineView.{bytes_of_parts}
use Rattle.reassembly.proofs.Walks.{walk_begin, walk_at, walk_ends, part_near, no_rest, gap_next}
use Rattle.reassembly.proofs.Merging.{none_left}
use Rattle.reassembly.proofs.sides.front_parts.Goals as goal
use Rattle.reassembly.proofs.sides.front_parts.Goals.{then-walk-test+then-from_at-len+else-len-stop, then-walk-test+else-from_at-len, else-walk-test}

pub walk-init : goal.walk-init
walk-init c = record {
  within = omega arith;
  walk = walk_begin _ _ _ _ _ c.requires (λ x. refl) c.first-latest.ensures (ap bytes_of_parts c.in_ok-parts.ensures.items);
}

pub end-len-requires : goal.end-len-requires
end-len-requires c = part_near _ _ _ _ _ _ c.walk.invariant.walk _ _ c.patch_at.ensures _ c.front-patch.ensures

pub walk-preserved : goal.walk-preserved
walk-preserved c = record {
  within = omega arith;
  walk = walk_at _ _ _ _ _ _ c.walk.invariant.walk _ _ c.patch_at.ensures _ c.from_at.ensures (omega (arith, c.if-from_at-len.true)) c.if-len-stop.true _ c.front-patch.ensures _ c.greater-at.ensures _ c.starts_chunk-starts.ensures _ c.end-len.ensures _ c.in_ok-add_part.ensures;
}

pub returns-clause-front : goal.returns-clause-front
returns-clause-front c =
    elim c.walk-test.branch [
      | then-walk-test+then-from_at-len+else-len-stop w ↦ walk_ends _ _ _ _ _ _ c.walk.invariant.walk (λ h. absurd (omega (arith, w.if-len-stop.false)))
      | then-walk-test+else-from_at-len w ↦ walk_ends _ _ _ _ _ _ c.walk.invariant.walk (λ h. gap_next _ _ _ c.walk.invariant.walk.rest_from w.from_at.ensures (λ e. absurd (omega (arith, w.if-from_at-len.false, e))))
      | else-walk-test w ↦ walk_ends _ _ _ _ _ _ c.walk.invariant.walk (λ h. no_rest _ _ (none_left _ _ w.walk-test.false))
    ]
