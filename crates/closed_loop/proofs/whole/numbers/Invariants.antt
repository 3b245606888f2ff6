use Rattle.std.proofs.Common.{◌≡◌, map, Some}
use Rattle.std.specs.List.{range_with_len}
use Rattle.closed_loop.proofs.whole.numbers.Given as goal

abbrev pub invariant-loop-i : goal.invariant-loop-i
invariant-loop-i l = l.numbers.items ≡ map (λ i. Some i) (range_with_len 0 l.i)
