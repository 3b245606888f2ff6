use Rattle.std.proofs.Common.{◌≡◌, take}
use Rattle.toxicap.specs.{outputs_of_sources}
use Rattle.toxicap.proofs.sources.Sources.outputs.Given as goal

abbrev pub invariant-loop-number : goal.invariant-loop-number
invariant-loop-number g l = l.outputs.items ≡ take l.number (outputs_of_sources l.self)
