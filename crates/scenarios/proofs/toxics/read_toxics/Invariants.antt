use Rattle.std.proofs.Common.{◌≡◌, drop}
use Rattle.serde_json.specs.View.{items_view}
use Rattle.scenarios.specs.ToxicsInFiles.{no_toxics, toxics_from}
use Rattle.scenarios.proofs.toxics.read_toxics.Given as goal

-- the rest, read after what was read, gives what the whole gives
abbrev pub invariant-loop-value : goal.invariant-loop-value
invariant-loop-value l = toxics_from l.proxy l.read (items_view (drop l.value-index l.items)) ≡ toxics_from l.proxy no_toxics (items_view l.items)
