use Rattle.std.proofs.Common.{◌≡◌, ◌+◌, take, drop}
use Rattle.toxicap.specs.{into_iter_items, into_iter_len, segments_in, lines_in}
use Rattle.toxicap.proofs.rehearsal.take_row.Given as goal

abbrev pub invariant-loop-taken : goal.invariant-loop-taken
invariant-loop-taken l = record {
  segments : l.segments.items ≡ segments_in (take l.taken (into_iter_items l.initial.deliveries));
  lines : l.lines.items ≡ lines_in (take l.taken (into_iter_items l.initial.deliveries));
  left : into_iter_items l.deliveries ≡ drop l.taken (into_iter_items l.initial.deliveries);
  fewer : into_iter_len l.deliveries + l.taken ≡ into_iter_len l.initial.deliveries;
}
