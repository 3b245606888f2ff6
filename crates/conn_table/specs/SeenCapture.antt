-- A capture as everything above reading sees it: of each packet its instant, its class and the fields of its segment.
use Rattle.std.specs.Prelude.{ℕ, List, map}
use Rattle.std.specs.List.{zip}
use Rattle.pcap_records.specs.Instants.{instants}
use Rattle.pcap_records.specs.Reading.{Packet, Contents}
use Rattle.frame_headers.specs.Frame.{SeenFrame, seen_frame}

-- a packet's frame, and its instant: the greatest stamp of the file up to its record
pub record SeenPacket : Type 0 where
  pub at : ℕ
  pub frame : SeenFrame

-- the ticks of a second, the packets in the order of the file, and the number of bytes after them
pub record SeenCapture : Type 0 where
  pub ticks : ℕ
  pub packets : List SeenPacket
  pub rest : ℕ

abbrev pub seen_packet : ℕ × Packet → SeenPacket
seen_packet (at, p) = record { at = at; frame = seen_frame p.bytes }

-- `carry` is the greatest stamp before these packets
unfoldable pub seen_packets : ℕ → List Packet → List SeenPacket
seen_packets carry packets = map seen_packet (zip (instants carry (map (λ p. p.stamp) packets)) packets)

abbrev pub seen_capture : Contents → SeenCapture
seen_capture c = record { ticks = c.ticks; packets = seen_packets 0 c.packets; rest = c.rest }
