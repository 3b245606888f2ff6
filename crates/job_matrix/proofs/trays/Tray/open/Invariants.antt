use Rattle.std.proofs.Common.{◌≡◌, replicate, None}
use Rattle.job_matrix.proofs.trays.Tray.open.Given as goal

abbrev pub invariant-loop : goal.invariant-loop
invariant-loop g l = l.slots.items ≡ replicate l.counter None
