use Rattle.std.proofs.Common.{drop, ◌+◌, Some, None, arith}
use Rattle.std.proofs.lemmas.List.{drop-drop}
use Rattle.pcap_records.specs.declared.fault.CaptureFault.TheVariants.{RecordTooLong}
use Rattle.pcap_records.specs.CaptureView.{bytes_of, heading_of}
use Rattle.pcap_records.proofs.Passes.{refuses-whole, refuses-torn, refuses-too_long}
use Rattle.pcap_records.proofs.reader.fault_after.Goals as goal

pub returns-in-Torn : goal.returns-in-Torn
returns-in-Torn c = c.records.invariant.back None (refuses-torn (heading_of c.args.heading) c.records.count (drop c.records.at (bytes_of c.args.bytes)) c.in-Torn.ensures)

pub returns-in-TooLong : goal.returns-in-TooLong
returns-in-TooLong c =
    c.records.invariant.back (Some (RecordTooLong c.records.count)) (refuses-too_long (heading_of c.args.heading) c.records.count (drop c.records.at (bytes_of c.args.bytes)) c.in-TooLong.ensures)

pub records-preserved : goal.records-preserved
records-preserved c =
    let bytes = bytes_of c.args.bytes in
    let found = c.in-Whole.ensures in
    record {
      inside = omega (arith, found.within.ends, found.start);
      header_each = omega arith;
      back = λ o refused. c.records.invariant.back o (refuses-whole (heading_of c.args.heading) c.records.count (drop c.records.at bytes) o found.is_whole
          (rw (← drop-drop (16 + c.in-Whole.record.len) c.records.at bytes, found.len) at refused));
    }
