-- If the connections that are left are settled, all are.
use Rattle.std.proofs.Common.{drop}
use Rattle.std.specs.List.{AllByRecursion}
use Rattle.closed_loop.specs.Settled.{IsSettledSession}
use Rattle.closed_loop.proofs.settling.are_settled.Given as goal

abbrev pub invariant-loop-x : goal.invariant-loop-x
invariant-loop-x l =
    let P = IsSettledSession l.times l.limit in
    AllByRecursion P (drop l.x-index l.sessions) → AllByRecursion P l.sessions
