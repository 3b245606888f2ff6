-- If the connections that are left open as they are to, all do.
use Rattle.std.proofs.Common.{drop}
use Rattle.closed_loop.specs.Openings.{AreOpened}
use Rattle.closed_loop.proofs.openings.are_opened.Given as goal

abbrev pub invariant-loop-x : goal.invariant-loop-x
invariant-loop-x l =
    let opened = AreOpened l.o.recorded.now l.times l.o.in_turn l.o.limit l.sessions in
    opened l.before (drop l.x-index l.sessions) → opened 0 l.sessions
