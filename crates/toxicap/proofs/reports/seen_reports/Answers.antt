use Rattle.std.proofs.Common.{map, subst}
use Rattle.std.proofs.lemmas.Result.{err_from_is_err_and}
use Rattle.toxicap.specs.{IsSeenOf, answer_of}
use Rattle.toxicap.proofs.TextsTaken.{of_fault_printed, refused_inputs, refused_scenarios, seen_inputs, taken_summary}
use Rattle.toxicap.proofs.reports.seen_reports.Goals as goal

pub returns-in_err-scenarios-in-Heads-clause-reports : goal.returns-in_err-scenarios-in-Heads-clause-reports
returns-in_err-scenarios-in-Heads-clause-reports g c = λ text within seen.
    let fault = err_from_is_err_and c.from_residual.result c.from_residual.ensures.1 in
    let is = subst (λ s. IsSeenOf s text) c.in-Heads.is seen in
    let texts = map (λ t. t.now) c.args.texts.now in
    rw (fault.1, fault.2) (of_fault_printed _ _ (refused_inputs answer_of _ _
    (refused_scenarios c.args.hosts.now texts text c.args.seed within is.0 _ c.in_err-scenarios-in-Heads.ensures.read)))

pub returns-in_ok-scenarios-in-Heads-clause-reports : goal.returns-in_ok-scenarios-in-Heads-clause-reports
returns-in_ok-scenarios-in-Heads-clause-reports g c = λ text within seen.
    let is = subst (λ s. IsSeenOf s text) c.in-Heads.is seen in
    let texts = map (λ t. t.now) c.args.texts.now in
    let told = rw c.deref.ensures.value at c.head_reports.ensures.reports text is.1 in
    rw (seen_inputs c.args.hosts.now texts text c.args.seed within is.0 _ c.in_ok-scenarios-in-Heads.ensures.read) told

pub returns-in_ok-scenarios-in-Heads-clause-summary : goal.returns-in_ok-scenarios-in-Heads-clause-summary
returns-in_ok-scenarios-in-Heads-clause-summary g c = λ text within seen.
    let is = subst (λ s. IsSeenOf s text) c.in-Heads.is seen in
    let summary = rw c.deref.ensures.value at c.head_reports.ensures.summary text is.1 in
    let read = seen_inputs c.args.hosts.now (map (λ t. t.now) c.args.texts.now) text 0 within is.0 _ c.in_ok-scenarios-in-Heads.ensures.read in
    rw (taken_summary _ _ text 0 _ read) summary
