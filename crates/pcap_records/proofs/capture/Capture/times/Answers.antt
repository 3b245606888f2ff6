use Rattle.std.proofs.Common.{◌+◌, ◌-◌, take, drop, refl, ap, ◌∙◌}
use Rattle.std.proofs.lemmas.List.{length_push}
use Rattle.pcap_records.specs.CaptureView.{bytes_of}
use Rattle.pcap_records.proofs.Running.{running_more, running_all, stamps_of_packets}
use Rattle.pcap_records.proofs.capture.Capture.times.Goals as goal

pub loop-record-preserved : goal.loop-record-preserved
loop-record-preserved c =
    let records = take (c.args.to - c.args.from) (drop c.args.from c.deref.result.now) in
    let before = c.loop-record.times.items in
    record {
      so_far =
          rw (c.in_ok-push.ensures.items, c.greater-greatest.ensures)
          (running_more before c.loop-record.greatest records c.loop-record.record-index c.record-item.result _ c.loop-record-test.true c.record-item.is c.loop-record.invariant.so_far);
      count = rw c.in_ok-push.ensures.items (length_push before c.greater-greatest.result ∙ ap (λ n. n + 1) c.loop-record.invariant.count);
    }

pub returns-clause-exact : goal.returns-clause-exact
returns-clause-exact c =
    let records = take (c.args.to - c.args.from) (drop c.args.from c.deref.result.now) in
    let all = running_all c.loop-record.times.items c.loop-record.greatest records c.loop-record.record-index _ c.loop-record-test.false c.loop-record.invariant.so_far in
    let same = stamps_of_packets (bytes_of c.self.inside.bytes) c.self.inside.records.items c.args.from c.args.to in
    all ∙ rw (c.deref.ensures.value, same, ← c.self.view_is) refl
