-- As many packets are seen as a capture has records.
use Rattle.std.proofs.Common.{◌≡◌, length, ◌∙◌}
use Rattle.std.proofs.lemmas.List.{length-map}
use Rattle.pcap_records.specs.CaptureView.{CaptureView, contents_of, packet_of}
use Rattle.conn_table.specs.SeenCapture.{seen_capture}
use Rattle.conn_table.proofs.RangeSteps.{length-seen_packets}

pub seen_count : (c : CaptureView) → length (seen_capture (contents_of c)).packets ≡ length c.records
seen_count c = length-seen_packets 0 (contents_of c).packets ∙ length-map c.records (packet_of c.bytes)
