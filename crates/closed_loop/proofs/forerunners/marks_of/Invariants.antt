-- The marks of the scripts so far.
use Rattle.std.proofs.Common.{map, take}
use Rattle.closed_loop.specs.Openings.{ended_mark, opened_mark, HasMarks}
use Rattle.closed_loop.proofs.forerunners.marks_of.Given as goal

abbrev pub invariant-loop-i : goal.invariant-loop-i
invariant-loop-i l = record { ended : HasMarks (map ended_mark (take l.i l.scripts)) l.ended; opened : HasMarks (map opened_mark (take l.i l.scripts)) l.opened }
