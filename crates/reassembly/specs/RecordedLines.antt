-- The recorded line of each side of a connection: which FIN counts, when a byte is available, how the line ends.
use Rattle.std.specs.Prelude.{ℕ, ◌+◌, ◌-◌, ◌==◌, min, max, Bool, ◌&&◌, ◌||◌, not, nat_le, if◌then◌else◌, List, [], map, filter, find, Option, Some, None}
use Rattle.std.specs.List.{range_with_len}
use Rattle.frame_headers.specs.declared.peers.Peer.{Peer}
use Rattle.frame_headers.specs.Flags.{has_flag, fin_flag}
use Rattle.conn_table.specs.IndexedSegments.{TimedSegment, same_peer}
use Rattle.conn_table.specs.Connections.{Connection}
use Rattle.reassembly.specs.Positions.{members_of, effective_members, is_reset, client_base, server_base, client_of, server_of, origin, shifted_end, first_gap, value_at, available_at, covered_count}

-- ---- lines

-- a byte, its instant, and whether a chunk starts with it (`byte_at`)
pub record LineByte : Type 0 where
  pub value : ℕ
  pub at : ℕ
  pub starts : Bool

-- how a direction ends: not at all, or at an instant by a FIN, a toxic's close or a reset
pub data End : Type 0 where
  live : End
  fin : ℕ → End
  close : ℕ → End
  reset : ℕ → End

pub record Line : Type 0 where
  pub bytes : List LineByte
  pub end : End

abbrev pub empty_line : Line
empty_line = record { bytes = []; end = live }

-- ---- what was recorded

-- what a side sent, as far as the capture tells; `lost` counts its bytes after the first gap or its FIN, whichever comes first
pub record RecordedSide : Type 0 where
  pub line : Line
  pub lost : ℕ

-- a FIN stands after its segment's payload, and counts if that is position 0 or later
abbrev pub is_counted_fin : ℕ → TimedSegment → Bool
is_counted_fin base m = has_flag m.fields.flags fin_flag && nat_le origin (shifted_end base m)

-- the first counted FIN in the file: no other can end the line
abbrev pub fin_segment : ℕ → List TimedSegment → Option TimedSegment
fin_segment base members = find (is_counted_fin base) members

abbrev pub fin_position : ℕ → TimedSegment → ℕ
fin_position base m = shifted_end base m - origin

-- the number of bytes before the first gap and before the FIN
abbrev pub length_before : ℕ → Option TimedSegment → ℕ → ℕ
length_before base None gap = gap
length_before base (Some m) gap = min (fin_position base m) gap

abbrev pub line_length : ℕ → List TimedSegment → ℕ
line_length base members = length_before base (fin_segment base members) (first_gap base members)

-- Byte x is available when the first x + 1 bytes have come. A chunk starts when that instant is another than that of the byte before.
abbrev pub byte_at : ℕ → List TimedSegment → ℕ → LineByte
byte_at base members x = record {
  value = value_at base members x;
  at = available_at base members (x + 1);
  starts = x == 0 || not (available_at base members (x + 1) == available_at base members x);
}

-- If the FIN stands right after the n bytes, the line ends by it, when the FIN and all n bytes have come. Else it ends by `other`.
abbrev pub end_at : ℕ → ℕ → ℕ → End → Option TimedSegment → End
end_at base n latest other None = other
end_at base n latest other (Some m) = if n == fin_position base m then fin (max m.at latest) else other

abbrev pub reset_or_live : Option TimedSegment → End
reset_or_live None = live
reset_or_live (Some m) = reset m.at

abbrev pub sent_by : Peer → List TimedSegment → List TimedSegment
sent_by sender members = filter (λ m. same_peer m.fields.from sender) members

-- the side that a sender's segments make; unless it reaches its FIN it ends by `other`, a reset or live
abbrev pub side_of : ℕ → List TimedSegment → End → RecordedSide
side_of base members other =
    let n = line_length base members in
    record {
      line = record {
        bytes = map (byte_at base members) (range_with_len 0 n);
        end = end_at base n (available_at base members n) other (fin_segment base members);
      };
      lost = covered_count base members n;
    }

-- A sender's side, from all members: without a base it has no bytes. The first reset of either side ends it unless it reaches its FIN.
unfoldable pub recorded_side : List TimedSegment → Peer → Option ℕ → RecordedSide
recorded_side members sender None = record { line = record { bytes = []; end = reset_or_live (find is_reset members) }; lost = 0 }
recorded_side members sender (Some base) = side_of base (sent_by sender (effective_members members)) (reset_or_live (find is_reset members))

pub record RecordedConnection : Type 0 where
  pub up : RecordedSide
  pub down : RecordedSide
  pub client_base : ℕ
  pub server_base : Option ℕ
  pub opened : ℕ
  pub mac_client : List ℕ
  pub mac_server : List ℕ

-- the client's line goes up, the server's down; the opening gives the instant `opened` and the Ethernet addresses
abbrev pub recorded_connection : Connection → RecordedConnection
recorded_connection c = record {
  up = recorded_side (members_of c) (client_of c) (Some (client_base c));
  down = recorded_side (members_of c) (server_of c) (server_base c);
  client_base = client_base c;
  server_base = server_base c;
  opened = c.opening.at;
  mac_client = c.opening.fields.mac_from;
  mac_server = c.opening.fields.mac_to;
}
