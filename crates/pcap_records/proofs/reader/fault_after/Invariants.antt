use Rattle.std.proofs.Common.{◌≤◌, length, drop, ◌-◌, ◌*◌, Option}
use Rattle.pcap_records.specs.declared.fault.CaptureFault.{CaptureFault}
use Rattle.lists.specs.Agreement.{Refuses}
use Rattle.pcap_records.specs.Reading.{records_after}
use Rattle.pcap_records.specs.CaptureView.{bytes_of, heading_of}
use Rattle.pcap_records.proofs.reader.fault_after.Given as goal

-- what refuses the records after this one refuses those after the first
abbrev pub invariant-records : goal.invariant-records
invariant-records l = record {
  inside : l.at ≤ length (bytes_of l.bytes);
  header_each : 16 * l.count ≤ l.at;
  back : (o : Option CaptureFault) → Refuses o (records_after 0 (heading_of l.heading) l.count (drop l.at (bytes_of l.bytes))) → Refuses o (records_after 0 (heading_of l.heading) l.fn.count (drop l.fn.at (bytes_of l.bytes)));
}

abbrev pub decreases-records : goal.decreases-records
decreases-records l = length (bytes_of l.bytes) - l.at
