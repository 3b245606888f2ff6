use Rattle.std.proofs.Common.{◌≡◌, ◌++◌, length, map, drop}
use Rattle.pcap_records.specs.Instants.{instants}
use Rattle.pcap_records.proofs.capture.Capture.times.Given as goal

abbrev pub invariant-loop-record : goal.invariant-loop-record
invariant-loop-record l = record {
  so_far : l.times.items ++ instants l.greatest (map (λ r. r.stamp) (drop l.record-index l.record-items)) ≡ instants l.fn.carry (map (λ r. r.stamp) l.record-items);
  count : length l.times.items ≡ l.record-index;
}
