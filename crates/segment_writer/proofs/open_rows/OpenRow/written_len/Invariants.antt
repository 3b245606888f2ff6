use Rattle.std.proofs.Common.{◌≡◌, length, map, min, take}
use Rattle.std.specs.List.{flat_map}
use Rattle.std.below.core.specs.declared.int.usize.TheConstants.{MAX}
use Rattle.segment_writer.specs.SegmentRows.{framed_at}
use Rattle.segment_writer.proofs.open_rows.OpenRow.written_len.Given as goal

abbrev pub invariant-loop-segment : goal.invariant-loop-segment
invariant-loop-segment l = l.len ≡ min (length (flat_map (λ x. x.bytes) (map (framed_at l.self.gathered.items) (take l.segment-index l.self.segments.items)))) MAX
