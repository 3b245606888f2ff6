use Rattle.std.proofs.Common.{◌≡◌, ◌≤◌, ◌++◌, length, map, Some}
use Rattle.std.specs.Vec.{vec_capacity}
use Rattle.job_matrix.proofs.trays.Tray.finish.Given as goal

abbrev pub invariant-loop-slot : goal.invariant-loop-slot
invariant-loop-slot g l = record {
  whole : map Some l.room.items ++ l.slot-iterator.rest.items ≡ l.fn.self;
  fits : length l.fn.self ≤ vec_capacity l.room;
}
