use Rattle.segment_writer.proofs.PieceSteps.{passing_on, copied_on}
use Rattle.segment_writer.proofs.pieces.copy_piece.Goals as goal

pub loop-left-preserved : goal.loop-left-preserved
loop-left-preserved c =
    let was = c.loop-left.invariant in
    let next = c.next_bytes.ensures in
    record {
      passing = passing_on c.args.parts.now c.loop-left.here c.next_bytes.result.1 c.loop-left.left _ c.next_bytes.result.0.now was.passing next.passed next.most;
      bytes = copied_on c.args.parts.now c.loop-left.here c.next_bytes.result.1 c.loop-left.left c.next_bytes.result.0.now c.loop-left.out.items _ _ next.passed next.most c.in_ok-extend_from_slice.ensures.items was.bytes;
    }
