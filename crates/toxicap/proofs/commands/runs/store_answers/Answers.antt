use Rattle.std.proofs.Common.{map, Err, refl, arith}
use Rattle.std.proofs.lemmas.Result.{err_from_is_err_and}
use Rattle.toxicap.specs.{answer_of, without_value}
use Rattle.toxicap.proofs.TextsTaken.{of_called, refused_inputs, taken_summary}
use Rattle.toxicap.proofs.StoringEnds.{refused_faults, stores_in}
use Rattle.toxicap.proofs.commands.runs.store_answers.Goals as goal

pub returns-in_err-inputs-clause-stored : goal.returns-in_err-inputs-clause-stored
returns-in_err-inputs-clause-stored g c =
    let fault = err_from_is_err_and c.from_residual.result c.from_residual.ensures.1 in
    rw (fault.1, fault.2) (Err _, refused_inputs answer_of _ _ c.in_err-inputs.ensures.inputs, (refl, refl))

pub returns-in_err-inputs-clause-faults : goal.returns-in_err-inputs-clause-faults
returns-in_err-inputs-clause-faults g c =
    let own = c.args.options.now in
    let fault = err_from_is_err_and c.from_residual.result c.from_residual.ensures.1 in
    let none = refused_faults c.args.folder.now.path _ _ (of_called own.hosts (map (λ t. t.now) c.args.texts.now) own.seed c.args.text) (refused_inputs answer_of _ _ c.in_err-inputs.ensures.inputs) in
    rw (fault.1, fault.2) (omega (arith, none))

pub returns-clause-stored : goal.returns-clause-stored
returns-clause-stored g c =
    rw c.in_ok-inputs.ensures.inputs (stores_in c.publishing_leaves_whole.ensures c.args.folder.now.path _ _ (without_value c.store_rehearsal.result) _ c.store_rehearsal.ensures.stored)

pub returns-clause-summary : goal.returns-clause-summary
returns-clause-summary g c =
    rw (taken_summary _ _ c.args.text c.args.options.now.seed _ c.in_ok-inputs.ensures.inputs) c.store_rehearsal.ensures.summary
