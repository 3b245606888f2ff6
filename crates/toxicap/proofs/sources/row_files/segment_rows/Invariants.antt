use Rattle.std.proofs.Common.{◌≡◌, ◌++◌, map}
use Rattle.toxicap.proofs.sources.row_files.segment_rows.Given as goal

abbrev pub invariant-loop-share : goal.invariant-loop-share
invariant-loop-share l = record {
  rows : l.rows.items ≡ map (λ s. s.segments) l.yielded;
  whole : l.yielded ++ l.share-iterator.rest.items ≡ l.fn.row;
}
