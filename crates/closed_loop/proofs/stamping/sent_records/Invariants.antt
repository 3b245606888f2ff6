-- The records so far, and those that are left, are all.
use Rattle.std.proofs.Common.{◌≡◌, ◌++◌, drop}
use Rattle.std.specs.List.{enumerate_from, filter_map}
use Rattle.closed_loop.specs.Recordings.{sent_records, timed_record}
use Rattle.closed_loop.proofs.stamping.sent_records.Given as goal

abbrev pub invariant-loop-i : goal.invariant-loop-i
invariant-loop-i l = l.turns.items ++ filter_map timed_record (enumerate_from l.i (drop l.i l.times)) ≡ sent_records l.times
