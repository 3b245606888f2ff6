use Rattle.std.proofs.Common.{◌≡◌, take}
use Rattle.toxicap.specs.{joined}
use Rattle.toxicap.proofs.reports.put_together.Given as goal

abbrev pub invariant-loop-text : goal.invariant-loop-text
invariant-loop-text l = l.whole.items ≡ joined (take l.text-index l.texts)
