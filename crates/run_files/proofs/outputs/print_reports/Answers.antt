use Rattle.std.proofs.Common.{◌+◌, arith, length, take}
use Rattle.std.proofs.KnownBytes.{Appends-trans}
use Rattle.std.proofs.lemmas.Grind.{common_steps}
use Rattle.std.proofs.lemmas.Result.{err_from_is_err_and}
use Rattle.run_files.specs.{reports_of}
use Rattle.run_files.specs.declared.outputs.Output.{Output}
use Rattle.run_files.proofs.StoredFiles.{printed_part}
use Rattle.run_files.proofs.outputs.print_reports.Goals as goal

pub returns-in_err-write_bytes-clause-first_part :
    goal.returns-in_err-write_bytes-clause-first_part
returns-in_err-write_bytes-clause-first_part g c =
    let p = err_from_is_err_and c.from_residual.result c.from_residual.ensures.1 in
    let items = c.as_slice-output-items.result.now in
    let report = c.output-item.result.report in
    let part = c.in_err-write_bytes.ensures.first_part in
    let less = rw c.as_slice.ensures at part.1 in
    let appended = rw c.as_slice.ensures at part.2 in
    let printed = printed_part (λ (o : Output). o.report) items c.loop-output.output-index part.0 c.output-item.result c.loop-output-test.true c.output-item.is less in
    let all = Appends-trans _ _ _ (reports_of (take c.loop-output.output-index items)) (take part.0 report) c.loop-output.invariant.printed appended in
    rw (p.1, ← c.as_slice-output-items.ensures)
    (length (reports_of (take c.loop-output.output-index items)) + part.0, printed.0, (rw printed.1 at all))

pub loop-output-preserved : goal.loop-output-preserved
loop-output-preserved g c = grind (arith, common_steps)
