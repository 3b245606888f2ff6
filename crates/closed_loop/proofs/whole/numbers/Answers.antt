use Rattle.std.proofs.Common.{◌∙◌, sym, ap, ℕ, List, [], ◌∷◌, ◌++◌, Option, Some, arith}
use Rattle.std.proofs.lemmas.List.FromFn.{map-range_with_len_more}
use Rattle.closed_loop.proofs.whole.numbers.Goals as goal

pub loop-i-preserved : goal.loop-i-preserved
loop-i-preserved c =
    c.in_ok-push.ensures.items ∙ ap (λ (xs : List (Option ℕ)). xs ++ Some c.loop-i.i ∷ []) c.loop-i.invariant
    ∙ sym (map-range_with_len_more (λ (i : ℕ). Some i) 0 c.loop-i.i c.loop-i.i (omega arith))
