-- None of those so far is a farewell.
use Rattle.std.proofs.Common.{◌≡◌, drop}
use Rattle.std.specs.List.{find}
use Rattle.closed_loop.specs.Scripts.{is_farewell}
use Rattle.closed_loop.proofs.scripts.first_farewell.Given as goal

abbrev pub invariant-loop-m : goal.invariant-loop-m
invariant-loop-m l = find is_farewell (drop l.m-index l.members) ≡ find is_farewell l.members
