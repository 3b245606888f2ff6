use Rattle.std.proofs.Common.{◌≡◌, ◌∙◌, Ok, ap, sym, arith}
use Rattle.std.proofs.lemmas.Result.{err_from_is_err_and}
use Rattle.pcap_records.specs.Heads.{heads_of}
use Rattle.toxicap.specs.{contents_of, reports_in, answer}
use Rattle.toxicap.proofs.ReportLines.{heads_reported, heads_summed, refused_heads, too_many}
use Rattle.toxicap.proofs.TextsTaken.{of_fault_printed}
use Rattle.toxicap.proofs.reports.head_reports.Goals as goal

pub returns-then-scenarios-gt-SCENARIO_LIMIT-clause-reports :
    goal.returns-then-scenarios-gt-SCENARIO_LIMIT-clause-reports
returns-then-scenarios-gt-SCENARIO_LIMIT-clause-reports g c = λ bytes told.
    ap reports_in (too_many bytes c.args.scenarios.now c.args.seed (omega (arith, c.if-scenarios-gt-SCENARIO_LIMIT.true)))

pub returns-in_err-heads-clause-reports : goal.returns-in_err-heads-clause-reports
returns-in_err-heads-clause-reports g c = λ bytes told.
    let fault = err_from_is_err_and c.from_residual.result c.from_residual.ensures.1 in
    let refused = refused_heads bytes c.args.scenarios.now c.args.seed (omega (arith, c.if-scenarios-gt-SCENARIO_LIMIT.false)) _ (rw c.in_err-heads.was at told) in
    rw (fault.1, fault.2) (of_fault_printed _ (answer bytes c.args.scenarios.now c.args.seed) refused)

pub returns-clause-reports : goal.returns-clause-reports
returns-clause-reports g c = λ bytes told.
    let is = rw c.in_ok-heads.was at told in
    let same : heads_of (contents_of c.over-capture.result) ≡ c.in_ok-heads.heads = rw (c.over-capture.ensures, c.deref.ensures.value) c.split-bytes.ensures.same in
    heads_reported bytes c.args.scenarios.now c.args.seed c.report_sees_heads.ensures.report (omega (arith, c.if-scenarios-gt-SCENARIO_LIMIT.false)) (contents_of c.over-capture.result)
    (is ∙ ap Ok (sym same)) ∙ ap Ok (sym c.in_ok-made.ensures.reports)

pub returns-clause-summary : goal.returns-clause-summary
returns-clause-summary g c = λ bytes told.
    let is = rw c.in_ok-heads.was at told in
    let same : heads_of (contents_of c.over-capture.result) ≡ c.in_ok-heads.heads = rw (c.over-capture.ensures, c.deref.ensures.value) c.split-bytes.ensures.same in
    heads_summed bytes c.args.scenarios.now c.report_sees_heads.ensures.summary (contents_of c.over-capture.result) (is ∙ ap Ok (sym same))
    ∙ ap Ok (sym c.in_ok-made.ensures.summary)
