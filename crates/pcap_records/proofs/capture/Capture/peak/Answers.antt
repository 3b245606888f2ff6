use Rattle.std.proofs.Common.{drop, take, ◌-◌, refl, ◌∙◌, arith}
use Rattle.pcap_records.specs.CaptureView.{bytes_of}
use Rattle.pcap_records.proofs.Running.{peak_more, peak_all, stamps_of_packets}
use Rattle.pcap_records.proofs.capture.Capture.peak.Goals as goal

pub loop-record-preserved : goal.loop-record-preserved
loop-record-preserved c =
    let records = take (c.args.to - c.args.from) (drop c.args.from c.deref.result.now) in
    omega (arith, c.greater-peak.ensures, peak_more c.loop-record.peak records c.loop-record.record-index c.record-item.result _ c.loop-record-test.true c.record-item.is c.loop-record.invariant)

pub returns : goal.returns
returns c =
    let records = take (c.args.to - c.args.from) (drop c.args.from c.deref.result.now) in
    let all = peak_all c.loop-record.peak records c.loop-record.record-index _ c.loop-record-test.false c.loop-record.invariant in
    let same = stamps_of_packets (bytes_of c.self.inside.bytes) c.self.inside.records.items c.args.from c.args.to in
    all ∙ rw (c.deref.ensures.value, same, ← c.self.view_is) refl
