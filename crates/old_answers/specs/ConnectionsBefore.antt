-- The connections of a capture before frames with a tag: `openings_before_before`, for one, is the `openings_before` of then.
-- Records of today have a VLAN, which is `None` here.
use Rattle.std.specs.Prelude.{ℕ, List, length, map, filter, Option, None, is_none, Bool, ◌&&◌, not, nat_lt, nat_le, if◌then◌else◌}
use Rattle.std.specs.List.{zip, enumerate_from}
use Rattle.pcap_records.specs.Instants.{instants}
use Rattle.pcap_records.specs.Reading.{Packet, Contents}
use Rattle.frame_headers.specs.declared.peers.Peer.{Peer}
use Rattle.conn_table.specs.declared.conns.Pair.{Pair}
use Rattle.conn_table.specs.SeenCapture.{SeenPacket, SeenCapture}
use Rattle.conn_table.specs.IndexedSegments.{IndexedSegment, same_peer, peer_le}
use Rattle.conn_table.specs.Connections.{last_of, is_opening, repeats, is_at, Connection}
use Rattle.old_answers.specs.FramesBefore.{seen_frame_before}

-- ---- what is seen of a capture

abbrev pub seen_packet_before : ℕ × Packet → SeenPacket
seen_packet_before (at, p) = record { at = at; frame = seen_frame_before p.bytes }

unfoldable pub seen_packets_before : ℕ → List Packet → List SeenPacket
seen_packets_before carry packets = map seen_packet_before (zip (instants carry (map (λ p. p.stamp) packets)) packets)

abbrev pub seen_capture_before : Contents → SeenCapture
seen_capture_before c = record { ticks = c.ticks; packets = seen_packets_before 0 c.packets; rest = c.rest }

-- ---- peers and pairs

abbrev pub pair_of_before : Peer → Peer → Pair
pair_of_before a b = record { vlan = None; low = if peer_le a b then a else b; high = if peer_le a b then b else a }

abbrev pub same_pair_before : Pair → Pair → Bool
same_pair_before p q = same_peer p.low q.low && same_peer p.high q.high

abbrev pub pair_of_segment_before : IndexedSegment → Pair
pair_of_segment_before s = pair_of_before s.timed.fields.from s.timed.fields.to

abbrev pub of_one_pair_before : IndexedSegment → IndexedSegment → Bool
of_one_pair_before s x = same_pair_before (pair_of_segment_before x) (pair_of_segment_before s)

-- ---- connections, by filtering the whole list

abbrev pub openings_before_before : List IndexedSegment → IndexedSegment → List IndexedSegment
openings_before_before segs s = filter (λ x. is_opening x && of_one_pair_before s x && nat_lt x.index s.index) segs

abbrev pub begins_before : List IndexedSegment → IndexedSegment → Bool
begins_before segs s = is_opening s && not (repeats (last_of (openings_before_before segs s)) s)

unfoldable pub beginnings_before : List IndexedSegment → List IndexedSegment
beginnings_before segs = filter (begins_before segs) segs

abbrev pub beginning_of_before : List IndexedSegment → IndexedSegment → Option IndexedSegment
beginning_of_before segs s = last_of (filter (λ b. of_one_pair_before s b && nat_le b.index s.index) (beginnings_before segs))

abbrev pub later_members_before : List IndexedSegment → IndexedSegment → List IndexedSegment
later_members_before segs b = filter (λ s. nat_lt b.index s.index && is_at b (beginning_of_before segs s)) segs

abbrev pub connection_of_before : List IndexedSegment → ℕ × IndexedSegment → Connection
connection_of_before segs (number, b) = record { number = number; opening = b.timed; later = map (λ s. s.timed) (later_members_before segs b) }

unfoldable pub connections_before : List IndexedSegment → List Connection
connections_before segs = map (connection_of_before segs) (enumerate_from 0 (beginnings_before segs))

abbrev pub is_unopened_before : List IndexedSegment → IndexedSegment → Bool
is_unopened_before segs s = is_none (beginning_of_before segs s)

unfoldable pub unopened_count_before : List IndexedSegment → ℕ
unopened_count_before segs = length (filter (is_unopened_before segs) segs)
