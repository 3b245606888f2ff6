use Rattle.std.proofs.Common.{◌≡◌, ◌++◌}
use Rattle.conn_table.specs.Entries.{all_of}
use Rattle.conn_table.specs.Growing.{HasGrown}
use Rattle.conn_table.proofs.table.grown_of.Given as goal

abbrev pub invariant-loop-range : goal.invariant-loop-range
invariant-loop-range l = record {
  grown : HasGrown (all_of l.yielded) l.growth;
  whole : l.yielded ++ l.range-iterator.rest.items ≡ l.fn.ranges.items;
}
