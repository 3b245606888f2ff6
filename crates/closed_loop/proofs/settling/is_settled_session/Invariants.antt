-- If the packets that are left are settled, all are.
use Rattle.std.proofs.Common.{drop}
use Rattle.std.specs.List.{AllByRecursion}
use Rattle.closed_loop.specs.Settled.{IsSettledPacket}
use Rattle.closed_loop.proofs.settling.is_settled_session.Given as goal

abbrev pub invariant-loop-packet : goal.invariant-loop-packet
invariant-loop-packet l =
    let P = IsSettledPacket l.times l.limit l.x in
    AllByRecursion P (drop l.packet-index l.packet-items) → AllByRecursion P l.packet-items
