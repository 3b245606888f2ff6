use Rattle.std.proofs.Common.{ℕ, List, [], length, subst}
use Rattle.scenarios.specs.Refusals.{and_then}
use Rattle.toxicap.specs.Answering.{answer_of}
use Rattle.toxicap.specs.PrintedReports.{reports_in}
use Rattle.toxicap_c.specs.Buffers.{Puts, buffers, output_sizes, put_of_reports}
use Rattle.toxicap_c.specs.Calls.{inputs_asked}
use Rattle.toxicap_c.proofs.ToldEnds.{ends_put, ends_told}
use Rattle.toxicap_c.proofs.calls.toxicap_reports.Goals as goal

pub returns-in-Ok : goal.returns-in-Ok
returns-in-Ok c =
    let P : List ℕ → Type 0 = λ text. Puts output_sizes (put_of_reports text) c.put_reports.result (buffers [] c.args.reports.now []) (buffers [] c.put_reports.new.reports []) c.put_reports.new.sizes in
    ends_put output_sizes put_of_reports (length c.args.inputs.now.scenario_lens.now) (and_then (inputs_asked c.args.inputs.now) (λ i. reports_in (answer_of i))) c.in-Ok.text _ _ _ c.put_reports.result c.status_of.result c.code_of.result
    c.in-Ok.ensures (subst P c.as_slice.ensures c.put_reports.ensures) c.status_of.ensures c.code_of.ensures

pub returns-in-Err : goal.returns-in-Err
returns-in-Err c =
    rw c.no_sizes.ensures
    (ends_told output_sizes put_of_reports (length c.args.inputs.now.scenario_lens.now) (and_then (inputs_asked c.args.inputs.now) (λ i. reports_in (answer_of i))) [] [] c.args.reports.now c.tell.new.buffer c.in-Err.fault
    c.in-Err.ensures c.tell.result c.tell.new.len c.code_of-in-Err.result c.tell.ensures c.code_of-in-Err.ensures)
