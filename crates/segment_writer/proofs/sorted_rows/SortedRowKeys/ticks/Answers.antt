use Rattle.std.proofs.Common.{subst, ap, ◌∙◌, slice_index_or, length, arith}
use Rattle.segment_writer.specs.OpenRows.{IsOrder}
use Rattle.segment_writer.specs.SegmentOutlines.{no_segment}
use Rattle.segment_writer.proofs.ShortKeySteps.{short_ticks}
use Rattle.segment_writer.proofs.sorted_rows.SortedRowKeys.ticks.Goals as goal

pub returns-in-Some : goal.returns-in-Some
returns-in-Some c =
    let row = c.self.inside.row in
    let order = subst (IsOrder row) c.in-Some.is c.self.invariant in
    c.ticks_in.ensures
    ∙ short_ticks row c.deref.result.now c.in-Some.short.items c.index.result.now c.args.index order.1 c.deref.ensures.value c.index.ensures (omega (arith, c.requires, ap length c.self.view_is))
    ∙ ap (λ xs. (slice_index_or xs c.args.index no_segment).key.moment) c.self.view_is
