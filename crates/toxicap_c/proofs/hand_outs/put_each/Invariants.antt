use Rattle.std.proofs.Common.{length, [], ◌∷◌}
use Rattle.toxicap_c.proofs.LaidParts.{IsLaid}
use Rattle.toxicap_c.proofs.hand_outs.put_each.Given as goal

-- the outputs before this one stand in the buffers
abbrev pub invariant-loop-output : goal.invariant-loop-output
invariant-loop-output l = record {
  captures : IsLaid (λ o. o.capture) l.outputs l.output-index l.at.captures l.captures l.initial.captures;
  reports : IsLaid (λ o. o.report) l.outputs l.output-index l.at.reports l.reports l.initial.reports;
  lens : IsLaid (λ o. length o.capture ∷ length o.report ∷ []) l.outputs l.output-index l.at.lens l.lens l.initial.lens;
}
