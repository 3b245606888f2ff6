use Rattle.std.proofs.Common.{[], ◌∷◌, ◌++◌, ◌+◌, List, ℕ, length, sym, ap, ◌∙◌}
use Rattle.std.specs.List.{flat_map, range_with_len}
use Rattle.std.proofs.lemmas.List.{append_assoc}
use Rattle.effects.specs.Marks.{toxic_marks}
use Rattle.effects.proofs.Numbered.{number_more}
use Rattle.effects.proofs.counts.put_proxy.Goals as goal

pub loop-t-preserved : goal.loop-t-preserved
loop-t-preserved c =
    let old = c.args.counts.now.items in
    let met : List ℕ = length c.args.marks.now ∷ [] in
    let each = toxic_marks c.args.marks.now in
    let t = c.loop-t.t in
    c.in_ok-put_toxic.ensures
    ∙ ap (λ ys. ys ++ each t) (c.loop-t.invariant ∙ sym (append_assoc old met (flat_map each (range_with_len 0 t))))
    ∙ number_more each (old ++ met) t ∙ append_assoc old met (flat_map each (range_with_len 0 (t + 1)))
