-- The packets so far, and those of the members that are left, are those of all.
use Rattle.std.proofs.Common.{◌≡◌, ◌++◌, take, drop}
use Rattle.closed_loop.specs.Packets.{packets_of, packets_after, bringers_view, IsBefore, IsSeen}
use Rattle.closed_loop.proofs.packets.packets_of.Given as goal

abbrev pub invariant-loop-i : goal.invariant-loop-i
invariant-loop-i l = record {
  whole : l.packets.items
      ++ packets_after l.making.manners l.making.recorded.now (bringers_view l.brought) l.opening (take l.i l.members) (drop l.i l.members)
      ≡ packets_of l.making.manners l.making.recorded.now (bringers_view l.brought) l.members;
  before : IsBefore (take l.i l.members) l.before;
  seen : IsSeen l.brought l.seen;
}
