use Rattle.std.proofs.Common.{◌≡◌, ◌≤◌, ◌-◌, List, ◌++◌, length}
use Rattle.conn_table.specs.Partials.{carried}
use Rattle.range_workers.specs.Ranges.{AreRanges}
use Rattle.range_workers.specs.declared.ranges.Range.{Range}
use Rattle.range_workers.proofs.ranges.ranges_of.Given as goal

abbrev pub invariant-cuts : goal.invariant-cuts
invariant-cuts l =
    (l.count ≡ length l.capture.records) ×
    (l.from ≤ l.count) ×
    (l.carry ≡ carried l.capture 0 l.from 0) ×
    ((rest : List Range) → AreRanges l.capture l.cut l.from rest → AreRanges l.capture l.cut 0 (l.ranges.items ++ rest))

abbrev pub decreases-cuts : goal.decreases-cuts
decreases-cuts l = l.count - l.from
