use Rattle.std.proofs.Common.{◌≡◌, ◌∙◌, ◌+◌, ◌<◌, ◌++◌, [], ◌∷◌, ℕ, List, length, map, take, get_or, Option, sym, ap, subst, arith}
use Rattle.std.proofs.lemmas.List.{take_more, map-append, length-map, length-take}
use Rattle.std.specs.BTreeMap.{BTreeMap}
use Rattle.closed_loop.specs.Scripts.{ScriptView}
use Rattle.closed_loop.specs.Openings.{ended_mark, opened_mark, HasMarks}
use Rattle.closed_loop.proofs.forerunners.marks_of.Goals as goal

more : (f : ScriptView → Option (ℕ × ℕ)) (xs : List ScriptView) (i : ℕ) (x : ScriptView) (m : BTreeMap (ℕ × ℕ) ℕ) → i < length xs → x ≡ get_or xs i x
    → HasMarks (map f (take i xs) ++ f x ∷ []) m → HasMarks (map f (take (i + 1) xs)) m
more f xs i x m inside at is =
    subst (λ (ms : List (Option (ℕ × ℕ))). HasMarks ms m)
    (sym (ap (map f) (take_more xs i x inside) ∙ map-append f (take i xs) (get_or xs i x ∷ []) ∙ ap (λ (y : ScriptView). map f (take i xs) ++ f y ∷ []) (sym at))) is

pub loop-i-preserved : goal.loop-i-preserved
loop-i-preserved c =
    let xs : List ScriptView = c.args.scripts.now in
    let i : ℕ = c.loop-i.i in
    let within : i < length xs = omega arith in
    let len : (f : ScriptView → Option (ℕ × ℕ)) → length (map f (take i xs)) ≡ i = λ f. grind (arith, length-map, length-take, within) in
    record {
      ended = more ended_mark xs i c.index-scripts-i.result c.put.new.places within c.index-scripts-i.is
          (subst (λ (o : Option (ℕ × ℕ)). HasMarks (map ended_mark (take i xs) ++ o ∷ []) c.put.new.places) c.ended_mark.ensures
          (c.in_ok-put.ensures (map ended_mark (take i xs)) (len ended_mark) c.loop-i.invariant.ended));
      opened = more opened_mark xs i c.index-scripts-i-in-loop-i.result c.put-in-loop-i.new.places within c.index-scripts-i-in-loop-i.is
          (subst (λ (o : Option (ℕ × ℕ)). HasMarks (map opened_mark (take i xs) ++ o ∷ []) c.put-in-loop-i.new.places) c.opened_mark.ensures
          (c.in_ok-put-2.ensures (map opened_mark (take i xs)) (len opened_mark) c.loop-i.invariant.opened));
    }
