use Rattle.std.proofs.Common.{◌≡◌, length, min, take}
use Rattle.std.specs.List.{flat_map}
use Rattle.std.below.core.specs.declared.int.usize.TheConstants.{MAX}
use Rattle.segment_writer.proofs.framed.SegListKeys.written_len.Given as goal

abbrev pub invariant-loop-segment : goal.invariant-loop-segment
invariant-loop-segment l = l.len ≡ min (length (flat_map (λ x. x.bytes) (take l.segment-index l.self))) MAX
