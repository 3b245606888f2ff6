use Rattle.std.proofs.Common.{◌≡◌, length, sym, ◌∙◌}
use Rattle.std.proofs.lemmas.List.Elements.{All-weaker}
use Rattle.toxicap.specs.{ShareTexts}
use Rattle.toxicap.proofs.OutputSteps.{as_many_heads, held_are}
use Rattle.toxicap.proofs.reports.made_reports.Goals as goal

pub of-requires : goal.of-requires
of-requires g c =
    let hold = c.in_ok-shares.ensures in
    let as_many = as_many_heads c.args.capture.now c.args.scenarios.now c.args.seed c.lines_are_contributed.ensures
    c.in_ok-heads.heads.items c.in_ok-heads.ensures c.in_ok-shares.shares hold in
    All-weaker _ (λ (share : ShareTexts). length share.texts ≡ length c.in_ok-heads.heads.items) (λ share is. is ∙ sym as_many) c.in_ok-shares.shares hold.each

pub run_summary-requires-clause-connections : goal.run_summary-requires-clause-connections
run_summary-requires-clause-connections g c =
    let shares = rw c.as_slice.ensures at c.in_ok-connections.ensures in
    shares ∙ c.in_ok-shares.ensures.connections

pub returns-clause-reports : goal.returns-clause-reports
returns-clause-reports g c =
    c.of.ensures
    ∙ held_are c.args.capture.now c.args.scenarios.now c.args.seed c.lines_are_contributed.ensures
    c.in_ok-heads.heads.items c.in_ok-heads.ensures c.in_ok-shares.shares c.in_ok-shares.ensures
