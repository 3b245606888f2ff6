use Rattle.std.proofs.Common.{◌≡◌, ◌++◌, take}
use Rattle.toxicap.specs.{flat_map}
use Rattle.toxicap.proofs.sources.row_files.reported_draft.Given as goal

-- the first two lines, and the lines of the shares until now
abbrev pub invariant-loop-share : goal.invariant-loop-share
invariant-loop-share g l = record {
  holds : g.D.Disk.holds l.draft (l.head ++ flat_map (λ s. s.lines) (take l.share-index l.shares));
  path : g.D.Disk.path_of l.draft ≡ g.D.Disk.path_of l.initial.draft;
}
