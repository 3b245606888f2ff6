use Rattle.std.proofs.Common.{◌≡◌, ◌≤◌, ◌-◌, length, map}
use Rattle.conn_table.specs.ClassCounts.{counts_of}
use Rattle.conn_table.specs.KeptSegments.{kept_in}
use Rattle.conn_table.specs.Partials.{packets_between, segments_between, carried}
use Rattle.conn_table.specs.Entries.{kept_by}
use Rattle.conn_table.proofs.partial.Partial.of_range.Given as goal

abbrev pub invariant-loop-index : goal.invariant-loop-index
invariant-loop-index l = record {
  segments : length l.entries.items ≤ l.index - l.from;
  at : l.at ≡ carried l.capture l.from l.index l.fn.carry;
  counts : l.counts ≡ counts_of (packets_between l.capture l.from l.index l.fn.carry);
  kept : map kept_by l.entries.items ≡ map (kept_in l.capture) (segments_between l.capture l.from l.index l.fn.carry);
}
