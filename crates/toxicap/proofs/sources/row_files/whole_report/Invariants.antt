use Rattle.std.proofs.Common.{◌≡◌, ◌++◌, take}
use Rattle.toxicap.specs.{flat_map}
use Rattle.toxicap.proofs.sources.row_files.whole_report.Given as goal

abbrev pub invariant-loop-share : goal.invariant-loop-share
invariant-loop-share l = l.text.items ≡ l.head ++ flat_map (λ s. s.lines) (take l.share-index l.shares)
