use Rattle.std.proofs.Common.{◌≡◌, ◌≤◌, length, map, drop, ◌-◌, ◌+◌, ◌*◌, All}
use Rattle.pcap_records.specs.Instants.{ticks_of}
use Rattle.pcap_records.specs.Reading.{records_after}
use Rattle.pcap_records.specs.CaptureView.{bytes_of, heading_of, IsWithinFile, packet_of}
use Rattle.pcap_records.proofs.Passes.{listed_before}
use Rattle.pcap_records.proofs.reader.list_records.Given as goal

abbrev pub invariant-records : goal.invariant-records
invariant-records l = record {
  inside : l.at ≤ length (bytes_of l.bytes);
  header_each : 16 * length l.records.items + 24 ≤ l.at;
  within : All (IsWithinFile (ticks_of l.heading.unit) (bytes_of l.bytes)) l.records.items;
  same : listed_before (map (packet_of (bytes_of l.bytes)) l.records.items) (records_after 0 (heading_of l.heading) (length l.records.items) (drop l.at (bytes_of l.bytes))) ≡ records_after 0 (heading_of l.heading) 0 (drop 24 (bytes_of l.bytes));
}

abbrev pub decreases-records : goal.decreases-records
decreases-records l = length (bytes_of l.bytes) - l.at
