use Rattle.std.proofs.lemmas.Result.{err_from_is_err_and}
use Rattle.toxicap.specs.{run_refusal, answer_of}
use Rattle.toxicap.proofs.TextsTaken.{agrees_unless_memory, of_fault_printed, refused_inputs, taken_summary}
use Rattle.toxicap.proofs.reports.text_reports.Goals as goal

pub returns-in_err-inputs-clause-reports : goal.returns-in_err-inputs-clause-reports
returns-in_err-inputs-clause-reports g c =
    let fault = err_from_is_err_and c.from_residual.result c.from_residual.ensures.1 in
    rw (fault.1, fault.2) (of_fault_printed _ _ (refused_inputs answer_of _ _ c.in_err-inputs.ensures.inputs))

pub returns-clause-reports : goal.returns-clause-reports
returns-clause-reports g c = rw c.in_ok-inputs.ensures.inputs (agrees_unless_memory run_refusal _ c.rehearse_reports.result _ c.rehearse_reports.ensures.reports)

pub returns-clause-summary : goal.returns-clause-summary
returns-clause-summary g c = rw (taken_summary _ _ c.args.text c.args.seed _ c.in_ok-inputs.ensures.inputs) c.rehearse_reports.ensures.summary
