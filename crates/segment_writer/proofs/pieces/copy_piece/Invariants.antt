use Rattle.std.proofs.Common.{◌≡◌, ◌++◌, take, drop}
use Rattle.segment_writer.specs.FirstPieces.{values}
use Rattle.segment_writer.specs.LineCursors.{left_at}
use Rattle.segment_writer.proofs.PieceSteps.{Passing}
use Rattle.segment_writer.proofs.pieces.copy_piece.Given as goal

abbrev pub invariant-loop-left : goal.invariant-loop-left
invariant-loop-left l = record {
  passing : Passing l.parts l.here l.left (drop l.len (left_at l.parts l.fn.from));
  bytes : l.out.items ++ values (take l.left (left_at l.parts l.here)) ≡ l.initial.out.items ++ values (take l.len (left_at l.parts l.fn.from));
}

abbrev pub decreases-loop-left : goal.decreases-loop-left
decreases-loop-left l = l.left
