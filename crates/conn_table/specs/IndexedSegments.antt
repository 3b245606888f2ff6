-- The segments of a capture, each with the instant at which it was recorded and the number of its record.
use Rattle.std.specs.Prelude.{ℕ, List, Option, Some, None, Bool, true, false, ◌||◌, ◌&&◌, ◌==◌, nat_lt, nat_le, if◌then◌else◌}
use Rattle.std.specs.List.{filter_map, enumerate_from}
use Rattle.frame_headers.specs.declared.peers.Peer.{Peer}
use Rattle.frame_headers.specs.Frame.{FrameClass, segment, SegmentFields}
use Rattle.conn_table.specs.SeenCapture.{SeenPacket}
use Rattle.conn_table.specs.declared.conns.Pair.{Pair}

pub record TimedSegment : Type 0 where
  pub at : ℕ
  pub fields : SegmentFields

-- with the number of its record, which is used only up to grouping
pub record IndexedSegment : Type 0 where
  pub index : ℕ
  pub timed : TimedSegment

abbrev pub is_segment : FrameClass → Bool
is_segment segment = true
is_segment _ = false

abbrev pub indexed_segment : ℕ × SeenPacket → Option IndexedSegment
indexed_segment (i, p) =
    if is_segment p.frame.class then Some (record { index = i; timed = record { at = p.at; fields = p.frame.fields } }) else None

-- the segments among packets that are numbered from n on
unfoldable pub indexed_segments : ℕ → List SeenPacket → List IndexedSegment
indexed_segments n packets = filter_map indexed_segment (enumerate_from n packets)

-- ---- peers and pairs

abbrev pub same_peer : Peer → Peer → Bool
same_peer a b = a.addr == b.addr && a.port == b.port

-- by address, then by port
abbrev pub peer_le : Peer → Peer → Bool
peer_le a b = nat_lt a.addr b.addr || (a.addr == b.addr && nat_le a.port b.port)

abbrev pub same_vlan : Option ℕ → Option ℕ → Bool
same_vlan None None = true
same_vlan (Some v) (Some w) = v == w
same_vlan v w = false

abbrev pub pair_of : Option ℕ → Peer → Peer → Pair
pair_of vlan a b = record { vlan = vlan; low = if peer_le a b then a else b; high = if peer_le a b then b else a }

abbrev pub same_pair : Pair → Pair → Bool
same_pair p q = same_vlan p.vlan q.vlan && (same_peer p.low q.low && same_peer p.high q.high)

abbrev pub pair_of_segment : IndexedSegment → Pair
pair_of_segment s = pair_of s.timed.fields.vlan s.timed.fields.from s.timed.fields.to
