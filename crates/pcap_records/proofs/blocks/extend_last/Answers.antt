use Rattle.std.proofs.Common.{◌<◌, length, refl, ap, arith}
use Rattle.pcap_records.proofs.FileBlocks.{extended_last}
use Rattle.pcap_records.proofs.blocks.extend_last.Goals as goal

pub returns-in_ok-extend_from_slice : goal.returns-in_ok-extend_from_slice
returns-in_ok-extend_from_slice c =
    let some : 0 < length c.args.blocks.now.items = omega (arith, c.in-Some.ensures.variant.0 refl, c.args.blocks.now.ok.0) in
    extended_last (λ block. block.items) c.args.blocks.now.items c.in-Some.last.now c.extend_from_slice.new.self c.args.bytes.now _
    c.args.blocks.now.ok.0 some (ap (λ block. block.items) c.in-Some.ensures.value) c.in_ok-extend_from_slice.ensures.items
