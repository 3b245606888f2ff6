-- What a table keeps of a segment, and which segments are openings.
use Rattle.std.specs.Prelude.{ℕ, ◌+◌, List, length, Option, Some, None, Bool, false, ◌&&◌, ◌==◌, not, slice_get, unwrap_or, []}
use Rattle.std.specs.Bool.{beq}
use Rattle.std.specs.Option.{option_map_or}
use Rattle.pcap_records.specs.CaptureView.{CaptureView, packet_at}
use Rattle.frame_headers.specs.Flags.{has_flag, syn_flag, ack_flag, rst_flag}
use Rattle.frame_headers.specs.Frame.{SegmentFields, payload_offset}
use Rattle.conn_table.specs.declared.conns.Member.{Member}
use Rattle.conn_table.specs.declared.conns.Pair.{Pair}
use Rattle.conn_table.specs.declared.entries.Opening.{Opening}
use Rattle.conn_table.specs.IndexedSegments.{IndexedSegment, peer_le, pair_of_segment}

-- its pair, and its member as if the pair's lower peer were the client
pub record KeptSegment : Type 0 where
  pub pair : Pair
  pub member : Member

abbrev pub is_from_low : KeptSegment → Bool
is_from_low k = k.member.from_client

-- the place of record i's packet in the file
abbrev pub packet_start : CaptureView → ℕ → ℕ
packet_start c i = option_map_or (λ r. r.start) (slice_get c.records i) 0

abbrev pub frame_at : CaptureView → ℕ → List ℕ
frame_at c i = unwrap_or (packet_at c i) []

abbrev pub payload_start : CaptureView → ℕ → ℕ
payload_start c i = packet_start c i + payload_offset (frame_at c i)

abbrev pub kept_at : ℕ → IndexedSegment → KeptSegment
kept_at start s = record {
  pair = pair_of_segment s;
  member = record {
    at = s.timed.at;
    index = s.index;
    seq = s.timed.fields.seq;
    start = start;
    len = length s.timed.fields.payload;
    flags = s.timed.fields.flags;
    from_client = peer_le s.timed.fields.from s.timed.fields.to;
  };
}

abbrev pub segment_read : ℕ → ℕ → SegmentFields → IndexedSegment
segment_read index at fields = record { index = index; timed = record { at = at; fields = fields } }

abbrev pub kept_in : CaptureView → IndexedSegment → KeptSegment
kept_in c s = kept_at (payload_start c s.index) s

-- ---- openings

-- SYN, and neither ACK nor RST
abbrev pub opens : KeptSegment → Bool
opens k =
    has_flag k.member.flags syn_flag && not (has_flag k.member.flags ack_flag) && not (has_flag k.member.flags rst_flag)

-- what tells a repeated opening: its sender and its sequence number
abbrev pub opening_of : KeptSegment → Opening
opening_of k = record { from_low = is_from_low k; seq = k.member.seq }

abbrev pub is_again : Option Opening → Opening → Bool
is_again None o = false
is_again (Some last) o = beq last.from_low o.from_low && (last.seq == o.seq)
