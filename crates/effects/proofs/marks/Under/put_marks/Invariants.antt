use Rattle.std.proofs.Common.{◌≡◌, [], ◌∷◌}
use Rattle.toxic_defs.specs.DeliveredLines.{met_view}
use Rattle.effects.specs.EffectCounts.{placed}
use Rattle.effects.specs.Marks.{mark_of, replay}
use Rattle.effects.proofs.Numbered.{so_far}
use Rattle.effects.proofs.marks.Under.put_marks.Given as goal

abbrev pub invariant-loop-place : goal.invariant-loop-place
invariant-loop-place l =
    l.marks.items ≡ so_far (λ x. mark_of l.self.seed l.self.number (met_view l.met) (replay l.recording) (placed l.direction x) ∷ []) l.toxics l.fn.marks.items l.place
