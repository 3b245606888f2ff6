use Rattle.std.proofs.Common.{length, arith, refl}
use borrow.Author.Count.{below_more}
use Rattle.std.proofs.lemmas.Option.{slice_get_read}
use Rattle.job_matrix.proofs.FilledTrays.{has_found}
use Rattle.job_matrix.proofs.trays.first_free.Goals as goal

pub loop-at-preserved : goal.loop-at-preserved
loop-at-preserved g c =
    let found = c.index-slots-at.result in
    let read = slice_get_read c.args.slots.now (length c.args.slots.now) c.loop-at.at found refl c.loop-at-test.true c.index-slots-at.is in
    below_more _ _ c.loop-at.invariant (has_found c.args.slots.now c.loop-at.at found read c.if-is_none.ensures)

pub returns-clause-none : goal.returns-clause-none
returns-clause-none g c = λ k within. c.loop-at.invariant k (omega arith)
