use Rattle.std.proofs.Common.{◌≡◌, length, arith}
use Rattle.std.proofs.lemmas.List.{length-map}
use Rattle.pcap_records.specs.CaptureView.{heading_of}
use Rattle.pcap_records.specs.HeadLists.{heads_kept, kept_head, seen}
use Rattle.pcap_records.specs.declared.heads.State.TheVariants.{Records}
use Rattle.pcap_records.proofs.HeadReading.{takes_too_long}
use Rattle.pcap_records.proofs.heads.take_on.Goals as goal

pub returns-in-TooLong-clause-takes : goal.returns-in-TooLong-clause-takes
returns-in-TooLong-clause-takes c =
    let list = c.take_records.new.list in
    let count : c.len-at.result ≡ length (heads_kept list) = omega (arith, c.len-at.ensures, list.records.ok.0, length-map list.records.items (kept_head list.bytes.items)) in
    rw count
    (takes_too_long (seen (Records c.args.heading) c.args.progress.now.list) list.taken (heading_of c.args.heading) (heads_kept list) c.args.bytes.now c.in-TooLong.ensures.takes c.in-TooLong.ensures.stop)
