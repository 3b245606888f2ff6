use Rattle.std.proofs.Common.{ℕ, Bool, List, [], ◌∷◌, ◌++◌, ap, ap₂, sym, ◌∙◌, arith}
use Rattle.std.specs.List.{enumerate_from}
use Rattle.std.proofs.lemmas.List.Concat.{flat_map_single}
use Rattle.std.proofs.lemmas.Simd.{map-map}
use Rattle.toxic_defs.specs.DeliveredLines.{met_view}
use Rattle.toxic_defs.specs.Toxics.{RatedKind, applies}
use Rattle.effects.specs.EffectCounts.{PlacedToxic, placed}
use Rattle.effects.specs.Marks.{mark_of, marks_in, replay}
use Rattle.effects.specs.declared.marks.Mark.{Mark}
use Rattle.effects.proofs.Numbered.{all_of, one_more}
use Rattle.effects.proofs.marks.Under.put_marks.Goals as goal

pub loop-place-preserved : goal.loop-place-preserved
loop-place-preserved c =
    let own = c.args.self.now in
    let place = c.loop-place.place in
    let toxic : RatedKind = c.index-toxics-place.result in
    let before : List Mark = c.loop-place.marks.items in
    let mark : PlacedToxic → Mark = mark_of own.seed own.number (met_view c.args.met) (replay c.args.recording.now) in
    let drawn = c.applies-drawn.ensures ∙ ap (λ (conn : ℕ). applies toxic (record { seed = own.seed; s = own.number; c = conn; d = c.args.direction; t = place })) (ap (λ x. x.number) c.conn.ensures) in
    one_more (λ x. mark (placed c.args.direction x) ∷ []) c.toxics_at-toxics.result.now c.args.marks.now.items place toxic before c.push.new.self.items
    c.loop-place-test.true c.index-toxics-place.is c.loop-place.invariant
    (c.in_ok-push.ensures.items ∙ ap₂ (λ (b e : Bool). let m : Mark = record { drawn = b; has_effect = e } in before ++ m ∷ []) drawn c.in_ok-has_effect.ensures)

pub returns : goal.returns
returns c =
    let own = c.args.self.now in
    let old : List Mark = c.args.marks.now.items in
    let toxics : List RatedKind = c.toxics_at-toxics.result.now in
    let mark : PlacedToxic → Mark = mark_of own.seed own.number (met_view c.args.met) (replay c.args.recording.now) in
    c.loop-place.invariant ∙ all_of (λ x. mark (placed c.args.direction x) ∷ []) toxics old c.loop-place.place (omega (arith, c.loop-place-test.false))
    ∙ ap (λ ms. old ++ ms) (flat_map_single (λ x. mark (placed c.args.direction x)) (enumerate_from 0 toxics) ∙ sym (map-map mark (placed c.args.direction) (enumerate_from 0 toxics)))
    ∙ ap (λ (ts : List RatedKind). old ++ marks_in own.seed own.number (met_view c.args.met) (replay c.args.recording.now) c.args.direction ts) c.toxics_at-toxics.ensures.toxics
