use Rattle.std.proofs.Common.{◌≡◌, ◌≤◌, length, drop, ◌+◌, ◌-◌, min}
use Rattle.frame_headers.specs.Layout.{payload_limit}
use Rattle.reassembly.specs.LineView.{bytes_of_parts}
use Rattle.segment_writer.specs.FirstPieces.{piece_size, chunk_rest}
use Rattle.segment_writer.specs.LineCursors.{left_at}
use Rattle.segment_writer.proofs.pieces.piece_len.Given as goal

abbrev pub invariant-loop-len : goal.invariant-loop-len
invariant-loop-len l = record {
  within : l.next ≤ length l.parts;
  size : piece_size payload_limit (left_at l.parts l.fn.from) ≡ min payload_limit (l.len + chunk_rest (bytes_of_parts (drop l.next l.parts)));
}

abbrev pub decreases-loop-len : goal.decreases-loop-len
decreases-loop-len l = length l.parts - l.next
