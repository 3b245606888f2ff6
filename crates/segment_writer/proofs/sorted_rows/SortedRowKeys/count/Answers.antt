use Rattle.std.proofs.Common.{ap, length, arith}
use Rattle.std.proofs.lemmas.List.{length-map}
use Rattle.std.proofs.lemmas.List.Sorted.{length_permutation}
use Rattle.segment_writer.specs.OpenRows.{written_in}
use Rattle.segment_writer.specs.SegmentRows.{framed_at}
use Rattle.segment_writer.specs.WrittenSegments.{sorted_by_key}
use Rattle.segment_writer.proofs.InOrder.{sorted_keeps_all}
use Rattle.segment_writer.proofs.sorted_rows.SortedRowKeys.count.Goals as goal

pub returns : goal.returns
returns c =
    let row = c.self.inside.row in
    let now = written_in row in
    omega (arith, c.len.ensures, length-map row.segments.items (framed_at row.gathered.items), length_permutation now (sorted_by_key now) (sorted_keeps_all now), ap length c.self.view_is)
