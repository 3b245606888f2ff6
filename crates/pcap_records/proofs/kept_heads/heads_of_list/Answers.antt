use Rattle.std.proofs.Common.{List, ap, arith}
use Rattle.pcap_records.specs.Heads.{Head}
use Rattle.pcap_records.specs.Instants.{ticks_of}
use Rattle.pcap_records.proofs.HeadLists.{heads_of_capture, stretched}
use Rattle.pcap_records.proofs.kept_heads.heads_of_list.Goals as goal

pub returns : goal.returns
returns c =
    let list = c.args.list in
    let ticks = ticks_of c.args.heading.unit in
    let bytes = c.resize.new.self.items in
    let to = stretched list bytes c.max.result list.bytes.len c.in_ok-resize.ensures.items (omega (arith, list.bytes.ok.0)) (omega (arith, c.max.ensures, c.len.ensures, list.bytes.ok.0)) in
    ap (λ (packets : List Head). record { ticks = ticks; packets = packets; rest = c.args.rest }) (heads_of_capture ticks list bytes c.requires.kept to)
