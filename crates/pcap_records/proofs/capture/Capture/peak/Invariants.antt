use Rattle.std.proofs.Common.{◌≡◌, max, map, drop}
use Rattle.pcap_records.specs.Instants.{greatest}
use Rattle.pcap_records.proofs.capture.Capture.peak.Given as goal

abbrev pub invariant-loop-record : goal.invariant-loop-record
invariant-loop-record l = max l.peak (greatest (map (λ r. r.stamp) (drop l.record-index l.record-items))) ≡ greatest (map (λ r. r.stamp) l.record-items)
