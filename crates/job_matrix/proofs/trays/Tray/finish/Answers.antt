use Rattle.std.proofs.Common.{length, refl, ◌∙◌, ap, arith, length-append}
use Rattle.std.proofs.lemmas.List.{length-map}
use Rattle.job_matrix.proofs.FilledTrays.{nothing_missing}
use Rattle.job_matrix.proofs.trays.Tray.finish.Goals as goal

pub returns-in-Some-clause-err : goal.returns-in-Some-clause-err
returns-in-Some-clause-err g c =
    let same = c.deref.ensures.value ∙ c.self.view_is in
    let found = c.in-Some.ensures.some in
    (refl, rw same at found.0, rw same at found.1)

pub unreachable-requires : goal.unreachable-requires
unreachable-requires g c =
    let same = c.deref.ensures.value ∙ c.self.view_is in
    let whole = rw (c.in-Some-slot.ensures.steps.0, c.in_default-slot.is) at c.loop-slot.invariant.whole in
    nothing_missing c.args.self c.loop-slot.room.items _ whole (rw same at c.in_default.ensures.none)

pub push_reserved-requires : goal.push_reserved-requires
push_reserved-requires g c =
    let whole = rw c.in-Some-slot.ensures.steps.0 at c.loop-slot.invariant.whole in
    omega (arith, simp (length-append, length-map) at (ap length whole), c.loop-slot.room.ok, c.loop-slot.invariant.fits)
