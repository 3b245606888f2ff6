-- Those so far keep their times, or are of a connection.
use Rattle.std.proofs.Common.{◌≡◌, ◌⊎◌, ◌<◌, ℕ, Some, true}
use Rattle.std.specs.List.{slice_get}
use Rattle.closed_loop.specs.Times.{time_at}
use Rattle.closed_loop.proofs.settling.alone_stay.Given as goal

abbrev pub invariant-loop-i : goal.invariant-loop-i
invariant-loop-i l = (k : ℕ) → k < l.i → (slice_get l.taken k ≡ Some true) ⊎ (time_at l.times k ≡ time_at l.recorded k)
