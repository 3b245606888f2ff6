use Rattle.std.proofs.Common.{◌≡◌, ◌+◌, ◌≤◌, ◌<◌, length, drop, take, ◌-◌, ◌/◌, ◌%◌, arith, ap, ◌∙◌}
use Rattle.std.proofs.lemmas.Bool.Decides.{nat_tests}
use Rattle.pcap_records.proofs.FileBlocks.{block_at, ends_in_block, slice_in_block, none_after, past_blocks}
use Rattle.pcap_records.proofs.blocks.Blocks.slice.Goals as goal

pub slice_bounds-result-end : goal.slice_bounds-result-end
slice_bounds-result-end c =
    let within : c.args.start / 8388608 < length c.self.inside.blocks.items = grind (arith, nat_tests, c.in-Some.ensures.lookup.0, c.deref.ensures.value) in
    let is = block_at (λ block. block.items) c.self.inside.blocks.items c.in-Some.block.now (c.args.start / 8388608) c.args.self.now c.self.view_is c.self.invariant.each within
    (rw c.deref.ensures.value at c.in-Some.ensures.lookup.1) in
    omega (arith, ends_in_block c.args.self.now c.deref-in-Some.result.now c.args.start c.args.len (c.deref-in-Some.ensures.value ∙ is) c.requires.short c.requires.within)

pub returns-in-Some : goal.returns-in-Some
returns-in-Some c =
    let within : c.args.start / 8388608 < length c.self.inside.blocks.items = grind (arith, nat_tests, c.in-Some.ensures.lookup.0, c.deref.ensures.value) in
    let is = block_at (λ block. block.items) c.self.inside.blocks.items c.in-Some.block.now (c.args.start / 8388608) c.args.self.now c.self.view_is c.self.invariant.each within
    (rw c.deref.ensures.value at c.in-Some.ensures.lookup.1) in
    let len : c.args.start % 8388608 + c.args.len - c.args.start % 8388608 ≡ c.args.len = omega arith in
    ap (λ n. take n (drop (c.args.start % 8388608) c.deref-in-Some.result.now)) len
    ∙ slice_in_block c.args.self.now c.deref-in-Some.result.now c.args.start c.args.len (c.deref-in-Some.ensures.value ∙ is) c.requires.short c.requires.within

pub returns-in-None : goal.returns-in-None
returns-in-None c =
    let past : length c.self.inside.blocks.items ≤ c.args.start / 8388608 = grind (arith, nat_tests, c.in-None.ensures.lookup.0, c.deref.ensures.value) in
    none_after c.args.self.now c.args.start c.args.len (past_blocks (λ block. block.items) c.self.inside.blocks.items c.args.self.now c.args.start c.self.view_is past)
