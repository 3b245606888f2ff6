use Rattle.std.proofs.Common.{ap, ◌∙◌, sym}
use Rattle.segment_writer.specs.OpenRows.{written_in}
use Rattle.segment_writer.specs.WrittenSegments.{sorted_by_key}
use Rattle.segment_writer.proofs.InOrder.{sorted_twice}
use Rattle.segment_writer.proofs.sorted_rows.SortedRow.of.Goals as goal

pub invariant_of-result-2 : goal.invariant_of-result-2
invariant_of-result-2 c =
    let is = c.in_ok-sort_segments.ensures.sorted in
    (c.in_ok-sort_segments.ensures.row, is ∙ sym (sorted_twice (written_in c.args.row)) ∙ ap sorted_by_key (sym is))

pub returns : goal.returns
returns c = ap sorted_by_key c.in_ok-sort_segments.ensures.sorted ∙ sorted_twice (written_in c.args.row)
