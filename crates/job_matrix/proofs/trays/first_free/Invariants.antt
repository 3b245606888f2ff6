use Rattle.std.proofs.Common.{ℕ, ◌<◌}
use Rattle.job_matrix.specs.Trays.{Has}
use Rattle.job_matrix.proofs.trays.first_free.Given as goal

abbrev pub invariant-loop-at : goal.invariant-loop-at
invariant-loop-at g l = (k : ℕ) → k < l.at → (v : _) × Has l.slots k v
