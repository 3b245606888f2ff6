use Rattle.std.proofs.Common.{◌≡◌, take}
use Rattle.conn_workers.specs.RowShares.{texts_under}
use Rattle.conn_workers.proofs.scenario_texts.share_of.Given as goal

abbrev pub invariant-loop-number : goal.invariant-loop-number
invariant-loop-number l = l.texts.items ≡ take l.number (texts_under l.seed l.scenarios l.recordings)
