use Rattle.std.proofs.Common.{◌≡◌, map, length, take, drop}
use Rattle.toxicap.specs.{enumerate_from, into_iter_items, into_iter_len, contents_of, seen_capture, connections_of, delivery_of, rows, scenario_output}
use Rattle.toxicap.proofs.rehearsal.list_outputs.Given as goal

abbrev pub invariant-loop-number : goal.invariant-loop-number
invariant-loop-number g l = record {
  made : l.outputs.items ≡ map (scenario_output (seen_capture (contents_of l.capture)) l.seed) (take l.number (enumerate_from 0 l.scenarios));
  left : into_iter_items l.rest ≡ rows (delivery_of l.capture.ticks l.seed) (drop l.number (enumerate_from 0 l.scenarios)) (connections_of (seen_capture (contents_of l.capture)));
  fewer : into_iter_len l.rest ≡ length (into_iter_items l.rest);
  wide : l.count ≡ length (connections_of (seen_capture (contents_of l.capture)));
}
