use Rattle.std.proofs.Common.{◌≡◌, map, take}
use Rattle.segment_writer.specs.SegmentRows.{framed_at}
use Rattle.segment_writer.proofs.open_rows.OpenRow.written.Given as goal

abbrev pub invariant-loop-segment : goal.invariant-loop-segment
invariant-loop-segment l = l.list.items ≡ map (framed_at l.self.gathered.items) (take l.segment-index l.self.segments.items)
