use Rattle.std.proofs.Common.{map}
use Rattle.segment_writer.specs.SegmentRows.{segment_key}
use Rattle.segment_writer.specs.ShortKeys.{HaveShortKeys}
use Rattle.segment_writer.proofs.short_keys.short_keys.Given as goal

abbrev pub invariant-loop-number : goal.invariant-loop-number
invariant-loop-number l = HaveShortKeys (map segment_key l.segments) l.number l.short.items
