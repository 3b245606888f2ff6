use Rattle.std.proofs.Common.{Ok, Err, refl}
use Rattle.std.proofs.lemmas.Result.{err_from_is_err_and}
use Rattle.toxicap.specs.{answer_of, run_refusal}
use Rattle.toxicap.proofs.TextsTaken.{agrees_unless_memory, refused_inputs}
use Rattle.toxicap.proofs.rehearsal.answers.Goals as goal

pub returns-in_err-text : goal.returns-in_err-text
returns-in_err-text g c =
    let fault = err_from_is_err_and c.from_residual.result c.from_residual.ensures.1 in
    rw (fault.1, fault.2) (Err _, (tt, c.in_err-text.ensures.refused), (refl, tt))

pub returns-in_err-inputs : goal.returns-in_err-inputs
returns-in_err-inputs g c =
    let loaded = c.in_ok-text.ensures in
    let fault = err_from_is_err_and c.from_residual-in_err-inputs.result c.from_residual-in_err-inputs.ensures.1 in
    let refused = refused_inputs answer_of _ _ (rw c.of.ensures at c.in_err-inputs.ensures.inputs) in
    rw (fault.1, fault.2) (Ok c.in_ok-text.text.items, (loaded.within, (loaded.consumed, loaded.at_end, loaded.none_failed)), refused)

pub returns : goal.returns
returns g c =
    let loaded = c.in_ok-text.ensures in
    let read = rw c.of.ensures at c.in_ok-inputs.ensures.inputs in
    (Ok c.in_ok-text.text.items, (loaded.within, (loaded.consumed, loaded.at_end, loaded.none_failed)), rw read (agrees_unless_memory run_refusal _ c.rehearse_by.result _ c.rehearse_by.ensures))
