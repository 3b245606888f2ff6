use Rattle.std.proofs.Common.{◌≡◌, map, take}
use Rattle.closed_loop.specs.Openings.{end_time, last_time}
use Rattle.closed_loop.proofs.openings.ends_of.Given as goal

abbrev pub invariant-loop-x : goal.invariant-loop-x
invariant-loop-x l = record {
  ends : l.ends.items ≡ map (end_time l.times) (take l.x-index l.sessions);
  lasts : l.lasts.items ≡ map (last_time l.times) (take l.x-index l.sessions);
}
