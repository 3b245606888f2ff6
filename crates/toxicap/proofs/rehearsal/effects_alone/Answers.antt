use Rattle.std.proofs.Common.{ap, ◌∙◌, Ok, sym}
use Rattle.std.proofs.lemmas.Result.{err_from_is_err_and}
use Rattle.toxicap.specs.{effects_in}
use Rattle.toxicap.proofs.TextsTaken.{made_as, refused_as}
use Rattle.toxicap.proofs.rehearsal.effects_alone.Goals as goal

pub returns-in_err-capture : goal.returns-in_err-capture
returns-in_err-capture c =
    let fault = err_from_is_err_and c.from_residual.result c.from_residual.ensures.1 in
    let refused = rw (c.bytes.ensures, c.as_slice-scenarios.ensures) at c.in_err-capture.ensures.refused in
    rw (fault.1, fault.2) (refused_as effects_in c.args.inputs.now _ (refused c.args.inputs.now.seed))

pub returns : goal.returns
returns c =
    let seen = rw c.bytes.ensures at c.in_ok-capture.ensures.seen in
    let few = rw c.as_slice-scenarios.ensures at c.in_ok-capture.ensures.few in
    made_as effects_in c.args.inputs.now few _ seen ∙ ap Ok (sym (rw c.as_slice-scenarios.ensures at c.in_ok-counts.ensures))
