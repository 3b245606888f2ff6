use Rattle.std.proofs.Common.{length}
use Rattle.segment_writer.specs.LineCursors.{left_at}
use Rattle.segment_writer.proofs.PuttingSteps.{Putting}
use Rattle.segment_writer.proofs.turns.put_line.Given as goal

abbrev pub invariant-pieces : goal.invariant-pieces
invariant-pieces l = Putting l.fn.row l.row l.sender l.own l.own_end l.peer l.peer_end l.from l.acknowledged l.sent l.place

abbrev pub decreases-pieces : goal.decreases-pieces
decreases-pieces l = length (left_at l.own l.from)
