use Rattle.std.proofs.Common.{◌≤◌, length, map, All}
use Rattle.run_files.specs.{into_iter_items, block_len}
use Rattle.run_files.proofs.LoadedParts.{Gathers}
use Rattle.run_files.proofs.block_loading.parts_of.Given as goal

-- the parts of the blocks until now were gathered, none too long
abbrev pub invariant-loop-block : goal.invariant-loop-block
invariant-loop-block g l = record {
  can_next : (goal.iterator-loop-block g).can_next l.block-iterator;
  is_finite : (goal.iterator-loop-block g).is_finite l.block-iterator;
  gathers : Gathers (g.F.DiskFile.contents l.fn.file) l.fn.count (into_iter_items l.block-iterator) (map (λ part. part.items) l.parts.items);
  short : All (λ part. length part.items ≤ block_len) l.parts.items;
}
