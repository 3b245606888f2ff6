use Rattle.std.proofs.Common.{◌≡◌, ◌++◌, take}
use Rattle.toxicap.specs.{text_of, joined}
use Rattle.toxicap.proofs.reports.put_texts.Given as goal

abbrev pub invariant-loop-share : goal.invariant-loop-share
invariant-loop-share l = joined l.texts.items ≡ joined l.initial.texts.items ++ text_of l.number (take l.share-index l.shares)
