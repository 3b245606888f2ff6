use Rattle.std.proofs.Common.{rules, List, ap, map, ◌∙◌}
use Rattle.std.proofs.lemmas.Fn.{always_returns_same}
use Rattle.std.proofs.lemmas.Result.{on_ok_weaker}
use Rattle.segment_writer.specs.SegmentRows.{framed_at, segment_key, IsInRow}
use Rattle.segment_writer.specs.WrittenSegments.{below}
use Rattle.segment_writer.specs.declared.row_segments.RowSegment.{RowSegment}
use Rattle.segment_writer.proofs.InOrder.{in_order_by_key, sorted_by_keys}
use Rattle.segment_writer.proofs.Sorting.{all_moved, sorted-map}
use Rattle.segment_writer.proofs.sorted_rows.sort_segments.Goals as goal

pub returns : goal.returns
returns c =
    let gathered = c.args.row.now.gathered.items in
    let was : List RowSegment = c.args.row.now.segments.items in
    let sort = c.sort_by_key.ensures in
    let keys = always_returns_same _ _ _ (λ a r f h. search rules) in
    record {
      row = all_moved (IsInRow gathered) was c.sort_by_key.new.self.items sort.permutation c.requires;
      sorted = on_ok_weaker c.sort_by_key.result
          (λ sorted. ap (map (framed_at gathered)) (sorted_by_keys segment_key was c.sort_by_key.new.self.items (sorted segment_key keys) (sort.stable segment_key keys))
          ∙ sorted-map (framed_at gathered) below was ∙ (λ i. in_order_by_key i (map (framed_at gathered) was)))
          sort.sorted;
    }
