use Rattle.std.proofs.Common.{◌≡◌, ◌≤◌, ◌+◌, ◌++◌, length, map, All}
use Rattle.std.specs.Vec.Iter.{into_iter_items}
use Rattle.pcap_records.specs.Blocks.{block_len, block_limit, bytes_in, bytes_until_short, AreFull}
use Rattle.pcap_records.proofs.blocks.Blocks.of_parts.Given as goal

-- the parts so far are full blocks, and the others come next
abbrev pub invariant-loop-part : goal.invariant-loop-part
invariant-loop-part l = record {
  can_next : (goal.iterator-loop-part).can_next l.part-iterator;
  is_finite : (goal.iterator-loop-part).is_finite l.part-iterator;
  full : AreFull (map (λ block. block.items) l.blocks.items);
  len : l.len ≡ length (bytes_in (map (λ block. block.items) l.blocks.items));
  few : length l.blocks.items + length (into_iter_items l.part-iterator) ≤ block_limit;
  short : All (λ part. length part.items ≤ block_len) (into_iter_items l.part-iterator);
  so_far : bytes_in (map (λ block. block.items) l.blocks.items) ++ bytes_until_short (map (λ part. part.items) (into_iter_items l.part-iterator))
      ≡ bytes_until_short (map (λ part. part.items) l.fn.parts.items);
}
