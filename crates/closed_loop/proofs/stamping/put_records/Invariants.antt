-- The records so far, and those that are left, are all.
use Rattle.std.proofs.Common.{◌≡◌, ◌++◌, drop}
use Rattle.closed_loop.specs.Recordings.{records_at}
use Rattle.closed_loop.proofs.stamping.put_records.Given as goal

abbrev pub invariant-loop-turn : goal.invariant-loop-turn
invariant-loop-turn l =
    l.out.items ++ records_at l.source.capture.now l.reached (drop l.turn-index l.turns)
    ≡ l.initial.out.items ++ records_at l.source.capture.now 0 l.turns
