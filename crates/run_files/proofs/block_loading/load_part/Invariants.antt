use Rattle.std.proofs.Common.{◌≡◌, ◌≤◌, ◌-◌, length, take, drop, IfSome}
use Rattle.run_files.specs.{block_len}
use Rattle.run_files.proofs.block_loading.load_part.Given as goal

-- what came until now are the file's bytes from the start on, no more than a block has of its own
abbrev pub invariant-reads : goal.invariant-reads
invariant-reads g l = record {
  next : IfSome (g.F.DiskFile.contents l.fn.file) (λ f.
      (l.part.items ≡ take (length l.part.items) (drop l.fn.start f.bytes)) × (length l.part.items ≤ length f.bytes - l.fn.start));
  within : length l.part.items ≤ block_len;
}

abbrev pub decreases-reads : goal.decreases-reads
decreases-reads g l = block_len - length l.part.items
