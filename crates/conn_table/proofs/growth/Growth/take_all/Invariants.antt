use Rattle.std.proofs.Common.{List, ◌++◌, take}
use Rattle.conn_table.specs.declared.entries.Entry.{Entry}
use Rattle.conn_table.specs.Growing.{HasGrown}
use Rattle.conn_table.proofs.growth.Growth.take_all.Given as goal

abbrev pub invariant-loop-entry : goal.invariant-loop-entry
invariant-loop-entry l = (done : List Entry) → HasGrown done l.initial.self → HasGrown (done ++ take l.entry-index l.range) l.self
