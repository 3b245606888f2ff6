use Rattle.std.proofs.Common.{◌≡◌, map, take, Some}
use Rattle.closed_loop.proofs.stamping.recorded_times.Given as goal

abbrev pub invariant-loop-moment : goal.invariant-loop-moment
invariant-loop-moment l = l.times.items ≡ map (λ t. Some t) (take l.moment-index l.moment-items)
