use Rattle.std.proofs.Common.{Ok, Err, refl, arith}
use Rattle.std.proofs.lemmas.Result.{err_from_is_err_and}
use Rattle.toxicap.specs.{answer_of, outputs_of_capture}
use Rattle.toxicap.proofs.TextsTaken.{of_answer, told_refusal}
use Rattle.toxicap.proofs.OutputSteps.{as_many_for}
use Rattle.toxicap.proofs.StoringEnds.{not_held, refused_faults}
use Rattle.toxicap.proofs.storing.store_rehearsal.Goals as goal

pub returns-in_err-capture-clause-stored : goal.returns-in_err-capture-clause-stored
returns-in_err-capture-clause-stored g c =
    let fault = err_from_is_err_and c.from_residual.result c.from_residual.ensures.1 in
    let refused = rw (c.bytes.ensures, c.as_slice-scenarios.ensures) at c.in_err-capture.ensures.refused in
    rw (fault.1, fault.2) (Err _, refused c.args.inputs.now.seed, (refl, refl))

pub returns-in_err-capture-clause-faults : goal.returns-in_err-capture-clause-faults
returns-in_err-capture-clause-faults g c =
    let fault = err_from_is_err_and c.from_residual.result c.from_residual.ensures.1 in
    let inputs = c.args.inputs.now in
    let refused = rw (c.bytes.ensures, c.as_slice-scenarios.ensures) at c.in_err-capture.ensures.refused in
    let none = refused_faults c.args.folder.now.path _ (answer_of inputs) (of_answer inputs.capture inputs.scenarios inputs.seed) (told_refusal _ (answer_of inputs) (refused inputs.seed)) in
    rw (fault.1, fault.2) (omega (arith, none))

pub returns-in_err-hold_for-clause-stored : goal.returns-in_err-hold_for-clause-stored
returns-in_err-hold_for-clause-stored g c =
    let held = c.in_err-hold_for.ensures in
    let fault = err_from_is_err_and c.from_residual-in_err-hold_for.result c.from_residual-in_err-hold_for.ensures.1 in
    let scenarios = c.as_slice-scenarios.result.now in
    let expected = outputs_of_capture c.in_ok-capture.capture scenarios c.args.inputs.now.seed in
    let many = as_many_for c.in_ok-capture.capture scenarios c.args.inputs.now.seed in
    let answered = rw c.bytes.ensures at c.in_ok-capture.ensures.answered c.args.inputs.now.seed in
    rw (fault.1, fault.2, ← c.as_slice-scenarios.ensures) (
      Ok expected,
      answered,
      not_held c.args.folder.now.path expected c.in_err-hold_for.field-0.0 _ _ held.as_before (held.refused.0, omega (arith, many, held.refused.1)),
    )

pub returns-in_err-hold_for-clause-faults : goal.returns-in_err-hold_for-clause-faults
returns-in_err-hold_for-clause-faults g c =
    let fault = err_from_is_err_and c.from_residual-in_err-hold_for.result c.from_residual-in_err-hold_for.ensures.1 in
    rw (fault.1, fault.2) c.in_err-hold_for.ensures.faults

pub returns-clause-stored : goal.returns-clause-stored
returns-clause-stored g c =
    let answered = rw c.bytes.ensures at c.in_ok-capture.ensures.answered c.args.inputs.now.seed in
    rw (← c.as_slice-scenarios.ensures) (
      Ok (outputs_of_capture c.in_ok-capture.capture c.as_slice-scenarios.result.now c.args.inputs.now.seed),
      answered,
      rw (← c.in_ok-hold_for.ensures.as_before) c.store_outputs.ensures.stored,
    )
