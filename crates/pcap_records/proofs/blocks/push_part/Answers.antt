use Rattle.std.proofs.Common.{◌≡◌, length, map, take, min, ap, ◌∙◌, arith}
use Rattle.std.proofs.lemmas.List.{map_push, take_min}
use Rattle.pcap_records.specs.Blocks.{slice_limit}
use Rattle.pcap_records.proofs.FileBlocks.{grown}
use Rattle.pcap_records.proofs.blocks.push_part.Goals as goal

pub returns : goal.returns
returns c =
    let part = c.args.part.items in
    let count : c.min.result ≡ min slice_limit (length part) = omega (arith, c.min.ensures, c.len.ensures, c.deref.ensures.len, c.args.part.ok.0) in
    let head : take c.min.result c.deref.result.now ≡ take slice_limit part =
    ap (take c.min.result) c.deref.ensures.value ∙ ap (λ n. take n part) count ∙ take_min slice_limit part in
    rw (c.in_ok-push.ensures.items, map_push (λ block. block.items) c.extend_last.new.blocks.items c.args.part, c.in_ok-extend_last.ensures, head)
    (grown (map (λ block. block.items) c.args.blocks.now.items) part c.requires.full c.requires.short)
