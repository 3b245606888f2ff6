use Rattle.std.proofs.Common.{ℕ, List, [], ◌++◌, get_or, ap, ap₂, ◌∙◌, append_assoc}
use Rattle.std.proofs.lemmas.List.{get_or_default}
use Rattle.toxicap.specs.{text_of, joined, reports_below}
use Rattle.toxicap.proofs.OutputSteps.{below_more, joined_more}
use Rattle.toxicap.proofs.reports.texts_in_turn.Goals as goal

pub loop-number-preserved : goal.loop-number-preserved
loop-number-preserved c =
    let heads = c.args.heads.now in
    let shares = c.args.shares.now in
    let number = c.loop-number.number in
    let head = c.as_slice.ensures ∙ c.index-heads-number.is ∙ get_or_default heads number c.index-heads-number.result [] c.loop-number-test.true in
    c.in_ok-put_texts.ensures
    ∙ ap (λ (xs : List ℕ). xs ++ text_of number shares) (ap joined c.in_ok-push.ensures.items ∙ joined_more c.loop-number.texts.items c.as_slice.result)
    ∙ ap₂ (λ (xs head : List ℕ). (xs ++ head) ++ text_of number shares) c.loop-number.invariant head
    ∙ append_assoc (reports_below heads shares number) (get_or heads number []) (text_of number shares)
    ∙ below_more heads shares number
