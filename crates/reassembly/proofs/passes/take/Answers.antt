use Rattle.std.proofs.Common.{inr, ap}
use Rattle.reassembly.specs.Spans.{spans, span_of}
use Rattle.reassembly.proofs.Taking.{SetAside, set_aside, taken_same, taken_more, kept_back}
use Rattle.reassembly.proofs.passes.take.Goals as goal
use Rattle.reassembly.proofs.passes.take.Goals.{then-patch-covered+in_ok-keep, else-patch-covered}

side : (c : goal.After-max) → SetAside (spans c.args.late.now.items) (spans c.if-patch-covered.late.items) (span_of c.args.patch.now) c.args.covered.since c.args.covered.high
side c =
    elim c.if-patch-covered.branch [
      | then-patch-covered+in_ok-keep w ↦ set_aside _ _ _ _ _ _ _ w.if-patch-covered.true (ap (λ v. spans v.items) w.late-is) w.in_ok-keep.ensures w.front-aside.ensures
      | else-patch-covered w ↦ inr (w.if-patch-covered.false, ap (λ v. spans v.items) w.late-is)
    ]

pub returns-clause-state : goal.returns-clause-state
returns-clause-state c =
    taken_more _ _ _ _ c.requires.state (span_of c.args.patch.now) _ _ _ _ _ (kept_back _ _ _ _ _ c.in_ok-keep-2.ensures c.back-rest.ensures) (side c) c.requires.near c.covered_since-since.ensures c.end.ensures c.max.ensures

pub returns-clause-same : goal.returns-clause-same
returns-clause-same c = taken_same _ _ _ _ c.requires.state (span_of c.args.patch.now) _ _ (kept_back _ _ _ _ _ c.in_ok-keep-2.ensures c.back-rest.ensures) (side c)
