use Rattle.segment_writer.proofs.PieceSteps.{passing_on}
use Rattle.segment_writer.proofs.pieces.skip_piece.Goals as goal

pub loop-left-preserved : goal.loop-left-preserved
loop-left-preserved c =
    passing_on c.args.parts.now c.loop-left.here c.next_bytes.result.1 c.loop-left.left _ c.next_bytes.result.0.now c.loop-left.invariant c.next_bytes.ensures.passed c.next_bytes.ensures.most
