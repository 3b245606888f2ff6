use Rattle.std.proofs.Common.{arith, ◌∙◌}
use Rattle.pcap_records.specs.CaptureView.{heading_of}
use Rattle.pcap_records.specs.Instants.{ticks_of}
use Rattle.pcap_records.proofs.HeadLists.{kept_grown, read_on-grown}
use Rattle.pcap_records.proofs.head_list.take_records.Goals as goal

pub records-preserved : goal.records-preserved
records-preserved c =
    let bytes = c.args.bytes.now in
    let h = heading_of c.args.heading in
    let old = c.records.list in
    let new = c.push_head.new.list in
    let read = c.in-Whole.record in
    let found = c.in-Whole.ensures in
    let grown = c.in-Ok.ensures.ok in
    let kept = c.records.invariant.kept in
    record {
      inside = omega (arith, found.within.ends, found.start);
      taken = omega (arith, grown.taken, c.records.invariant.taken);
      kept = kept_grown (ticks_of c.args.heading.unit) bytes read old new kept grown found.within;
      same = λ more. c.records.invariant.same more ∙ read_on-grown h bytes c.records.at read old new kept grown found more;
    }
