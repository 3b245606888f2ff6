-- What is marked is of the scripts so far.
use Rattle.std.proofs.Common.{◌≡◌, ℕ, length, take, Some, true}
use Rattle.std.specs.List.{list_any, slice_get}
use Rattle.closed_loop.specs.Settled.{is_of_script}
use Rattle.closed_loop.proofs.settling.taken_records.Given as goal

abbrev pub invariant-loop-script : goal.invariant-loop-script
invariant-loop-script l = record {
  len : length l.taken.items ≡ l.count;
  marked : (i : ℕ) → slice_get l.taken.items i ≡ Some true → list_any (is_of_script i) (take l.script-index l.scripts) ≡ true;
}
