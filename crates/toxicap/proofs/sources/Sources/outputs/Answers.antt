use Rattle.std.proofs.Common.{◌<◌, ◌≤◌, List, [], ◌∷◌, ◌++◌, length, ap₂, sym, ◌∙◌, arith}
use Rattle.std.proofs.lemmas.List.{take_all, take_more}
use Rattle.toxicap.specs.{Output, no_output, outputs_of_sources}
use Rattle.toxicap.proofs.OutputSteps.{as_many_outputs}
use Rattle.toxicap.proofs.sources.Sources.outputs.Goals as goal

pub loop-number-preserved : goal.loop-number-preserved
loop-number-preserved g c =
    let all : List Output = outputs_of_sources c.args.self.now in
    let below : c.loop-number.number < length all = omega (arith, c.loop-number-test.true, as_many_outputs c.args.self.now) in
    c.in_ok-push.ensures.items ∙ ap₂ (λ (xs : List Output) (o : Output). xs ++ o ∷ []) c.loop-number.invariant c.in_ok-output.ensures
    ∙ sym (take_more all c.loop-number.number no_output below)

pub returns : goal.returns
returns g c =
    let all : List Output = outputs_of_sources c.args.self.now in
    let over : length all ≤ c.loop-number.number = omega (arith, c.loop-number-test.false, as_many_outputs c.args.self.now) in
    c.of.ensures ∙ c.loop-number.invariant ∙ take_all c.loop-number.number all over
