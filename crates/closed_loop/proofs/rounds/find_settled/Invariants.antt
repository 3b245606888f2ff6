use Rattle.std.proofs.Common.{◌≤◌}
use Rattle.closed_loop.proofs.rounds.find_settled.Given as goal

abbrev pub invariant-rounds : goal.invariant-rounds
invariant-rounds l = l.left ≤ l.rounds

abbrev pub decreases-rounds : goal.decreases-rounds
decreases-rounds l = l.left
