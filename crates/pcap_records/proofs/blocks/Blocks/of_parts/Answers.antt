use Rattle.std.proofs.Common.{◌≡◌, ◌≤◌, ◌+◌, [], suc, length, length-append, map, ap, arith}
use Rattle.std.specs.Vec.Iter.{into_iter_items}
use Rattle.std.proofs.lemmas.List.{length-map, nil_from_length}
use Rattle.pcap_records.specs.Blocks.{block_len, bytes_in, IsGrown}
use Rattle.pcap_records.proofs.FileBlocks.{full_after, bytes_after_full, bytes_after_short, bytes_at_end}
use Rattle.pcap_records.proofs.blocks.Blocks.of_parts.Goals as goal

pub loop-part-preserved : goal.loop-part-preserved
loop-part-preserved c =
    let was = c.loop-part.invariant in
    let part = c.in-Some.part.items in
    let rest = map (λ p. p.items) (into_iter_items c.next.new.self) in
    let before = map (λ block. block.items) c.loop-part.blocks.items in
    let after = map (λ block. block.items) c.push_part.new.blocks.items in
    let next = c.in-Some.ensures.steps.0 in
    let is_grown : IsGrown before part after = c.in_ok-push_part.ensures in
    let so_far = rw next at was.so_far in
    let short = rw next at was.short in
    let most : length part ≤ block_len = short 0 c.in-Some.part (omega arith) in
    let full : length part ≡ block_len = omega (arith, most, c.if-count-lt-BLOCK_LEN.false, c.len-count.ensures, c.in-Some.part.ok.0) in
    let more : length c.push_part.new.blocks.items ≡ length c.loop-part.blocks.items + 1 =
    omega (arith, is_grown.one_more, length-map c.push_part.new.blocks.items (λ block. block.items), length-map c.loop-part.blocks.items (λ block. block.items)) in
    record {
      can_next = tt;
      is_finite = tt;
      full = full_after before after part rest _ is_grown so_far was.full full;
      len = omega (arith, was.len, ap length is_grown.bytes, length-append (bytes_in before) part, c.len-count.ensures, c.in-Some.part.ok.0);
      few = omega (arith, was.few, ap length next, more);
      short = λ k d within. short (suc k) d (omega arith);
      so_far = bytes_after_full before after part rest _ is_grown so_far full;
    }

pub returns : goal.returns
returns c = elim c.match-next.branch [
  | goal.in-None w ↦
      let none : into_iter_items c.loop-part.part-iterator ≡ [] =
      nil_from_length (into_iter_items c.loop-part.part-iterator) (omega (arith, w.in-None.ensures.steps.0, c.loop-part.part-iterator.rest.ok.0)) in
      rw w.blocks-is (bytes_at_end (map (λ block. block.items) c.loop-part.blocks.items) _ (rw none at c.loop-part.invariant.so_far))
  | goal.in-Some+in_ok-push_part+then-count-lt-BLOCK_LEN w ↦
      let next = w.in-Some.ensures.steps.0 in
      rw w.blocks-is
      (bytes_after_short (map (λ block. block.items) c.loop-part.blocks.items) (map (λ block. block.items) w.push_part.new.blocks.items) w.in-Some.part.items
      (map (λ p. p.items) (into_iter_items c.next.new.self)) _ w.in_ok-push_part.ensures (rw next at c.loop-part.invariant.so_far)
      (omega (arith, w.if-count-lt-BLOCK_LEN.true, w.len-count.ensures, w.in-Some.part.ok.0)))
]
