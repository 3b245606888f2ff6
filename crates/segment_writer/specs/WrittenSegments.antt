-- The segments of a connection as they are written (RFC 9293 section 3.1), and the order in which a capture has them.
use Rattle.std.specs.Prelude.{ℕ, ◌+◌, ◌-◌, ◌%◌, List, [], ◌∷◌, ◌++◌, length, map, filter, Bool, true, false, ◌||◌, ◌&&◌, ◌==◌, nat_lt, if◌then◌else◌, Option}
use Rattle.std.specs.List.{enumerate_from}
use Rattle.pcap_records.specs.Instants.{horizon}
use Rattle.pcap_records.specs.Writing.{record_bytes}
use Rattle.frame_headers.specs.Flags
use Rattle.frame_headers.specs.Headers.{headers}
use Rattle.frame_headers.specs.Layout.{payload_limit}
use Rattle.frame_headers.specs.declared.peers.Peer.{Peer}
use Rattle.frame_headers.specs.declared.written.Header.{Header}
use Rattle.segment_writer.specs.declared.framed.SegKey.{SegKey}
use Rattle.segment_writer.specs.declared.framed.Framed.{Framed}
use Rattle.reassembly.specs.Positions.{sequence_space}
use Rattle.reassembly.specs.RecordedLines.{LineByte, Line, End, live, fin, close, reset}

-- ---- hosts and sides

pub record Host : Type 0 where
  pub mac : List ℕ
  pub peer : Peer

-- `base` is the sequence number from which its bytes count
pub record WrittenSide : Type 0 where
  pub host : Host
  pub base : ℕ
  pub line : Line

-- `opened` is the instant of its opening; it is refused if its proxy is disabled
pub record WrittenConnection : Type 0 where
  pub number : ℕ
  pub opened : ℕ
  pub vlan : Option ℕ
  pub refused : Bool
  pub client : WrittenSide
  pub server : WrittenSide

-- ---- pieces of a chunk

-- bytes of one chunk that go in one segment, their instant, and whether the chunk ends with them
pub record Piece : Type 0 where
  pub at : ℕ
  pub bytes : List ℕ
  pub ends : Bool

-- a chunk ends before these bytes: they are none, or begin another
abbrev pub is_chunk_border : List LineByte → Bool
is_chunk_border [] = true
is_chunk_border (c ∷ cs) = c.starts

abbrev pub pieces_led_by : LineByte → List Piece → List Piece
pieces_led_by c [] = []
pieces_led_by c (p ∷ ps) = record { at = c.at; bytes = c.value ∷ p.bytes; ends = p.ends } ∷ ps

-- the bytes, cut after each one that ends a chunk or fills its piece; the first piece has room for `room` of them, at least one
unfoldable pub pieces : ℕ → ℕ → List LineByte → List Piece
pieces limit room [] = []
pieces limit room (c ∷ cs) =
    if is_chunk_border cs || room == 1
    then record { at = c.at; bytes = c.value ∷ []; ends = is_chunk_border cs } ∷ pieces limit limit cs
    else pieces_led_by c (pieces limit (room - 1) cs)

-- ---- segments of a line

pub record SentSegment : Type 0 where
  pub at : ℕ
  pub seq : ℕ
  pub ack : ℕ
  pub flags : ℕ
  pub payload : List ℕ

-- a FIN or a close takes up a sequence number, which only later acknowledgments count
abbrev pub end_numbers_before : ℕ → End → ℕ
end_numbers_before at live = 0
end_numbers_before at (fin m) = if nat_lt m at then 1 else 0
end_numbers_before at (close m) = if nat_lt m at then 1 else 0
end_numbers_before at (reset m) = 0

-- the peer's next sequence number, by what was delivered of it strictly before the instant
abbrev pub acknowledgment_number : WrittenSide → ℕ → ℕ
acknowledgment_number peer at = (peer.base + 1 + length (filter (λ c. nat_lt c.at at) peer.line.bytes) + end_numbers_before at peer.line.end) % sequence_space

-- the sequence number of a side's byte x, or of its end after x bytes
abbrev pub sequence_number : WrittenSide → ℕ → ℕ
sequence_number own x = (own.base + 1 + x) % sequence_space

-- the end of a side that has sent n bytes
abbrev pub end_segments : WrittenSide → WrittenSide → ℕ → End → List SentSegment
end_segments own peer n live = []
end_segments own peer n (fin at) = record { at = at; seq = sequence_number own n; ack = acknowledgment_number peer at; flags = Flags.fin_flag + Flags.ack_flag; payload = [] } ∷ []
end_segments own peer n (close at) = record { at = at; seq = sequence_number own n; ack = acknowledgment_number peer at; flags = Flags.fin_flag + Flags.ack_flag; payload = [] } ∷ []
end_segments own peer n (reset at) = record { at = at; seq = sequence_number own n; ack = acknowledgment_number peer at; flags = Flags.rst_flag + Flags.ack_flag; payload = [] } ∷ []

-- the pieces of a side that has sent n bytes, and then its end; PSH stands on a chunk's last piece
unfoldable pub segments_sent_from : WrittenSide → WrittenSide → ℕ → List Piece → List SentSegment
segments_sent_from own peer n [] = end_segments own peer n own.line.end
segments_sent_from own peer n (p ∷ ps) =
    record {
      at = p.at;
      seq = sequence_number own n;
      ack = acknowledgment_number peer p.at;
      flags = if p.ends then Flags.psh_flag + Flags.ack_flag else Flags.ack_flag;
      payload = p.bytes;
    } ∷ segments_sent_from own peer (n + length p.bytes) ps

-- all that a side sends once the connection is open
abbrev pub segments_sent_by : WrittenSide → WrittenSide → List SentSegment
segments_sent_by own peer = segments_sent_from own peer 0 (pieces payload_limit payload_limit own.line.bytes)

-- ---- frames and records

abbrev pub header_of : WrittenConnection → Host → Host → SentSegment → Header
header_of c from to s = record {
  mac_from = from.mac;
  mac_to = to.mac;
  vlan = c.vlan;
  from = from.peer;
  to = to.peer;
  seq = s.seq;
  ack = s.ack;
  flags = s.flags;
}

unfoldable pub frame_bytes : WrittenConnection → Host → Host → SentSegment → List ℕ
frame_bytes c from to s = headers (header_of c from to s) s.payload ++ s.payload

abbrev pub framed_segment : ℕ → WrittenConnection → ℕ → Host → Host → ℕ × SentSegment → Framed
framed_segment ticks c turn from to (place, s) = record {
  key = record { moment = s.at; conn = c.number; turn = turn; place = place };
  bytes = record_bytes ticks s.at (frame_bytes c from to s);
}

-- ---- a connection

abbrev pub opening_segment : ℕ → ℕ → ℕ → ℕ → SentSegment
opening_segment at seq ack flags = record { at = at; seq = seq; ack = ack; flags = flags; payload = [] }

abbrev pub syn_segment : WrittenConnection → SentSegment
syn_segment c = opening_segment c.opened c.client.base 0 Flags.syn_flag

abbrev pub syn_ack_segment : WrittenConnection → SentSegment
syn_ack_segment c = opening_segment c.opened c.server.base ((c.client.base + 1) % sequence_space) (Flags.syn_flag + Flags.ack_flag)

abbrev pub ack_segment : WrittenConnection → SentSegment
ack_segment c = opening_segment c.opened ((c.client.base + 1) % sequence_space) ((c.server.base + 1) % sequence_space) Flags.ack_flag

-- what a disabled proxy answers in place of SYN ACK: RST ACK
abbrev pub refusal_segment : WrittenConnection → SentSegment
refusal_segment c = opening_segment c.opened 0 ((c.client.base + 1) % sequence_space) (Flags.rst_flag + Flags.ack_flag)

abbrev pub framed_by_client : ℕ → WrittenConnection → ℕ → ℕ × SentSegment → Framed
framed_by_client ticks c turn s = framed_segment ticks c turn c.client.host c.server.host s

abbrev pub framed_by_server : ℕ → WrittenConnection → ℕ → ℕ × SentSegment → Framed
framed_by_server ticks c turn s = framed_segment ticks c turn c.server.host c.client.host s

-- turn 0: the opening
abbrev pub opening_turn : Bool → ℕ → WrittenConnection → List Framed
opening_turn false ticks c = framed_by_client ticks c 0 (0, syn_segment c) ∷ framed_by_server ticks c 0 (1, syn_ack_segment c) ∷ framed_by_client ticks c 0 (2, ack_segment c) ∷ []
opening_turn true ticks c = framed_by_client ticks c 0 (0, syn_segment c) ∷ framed_by_server ticks c 0 (1, refusal_segment c) ∷ []

-- turns 1 and 2: the client's line and the server's
abbrev pub up_turn : ℕ → WrittenConnection → List Framed
up_turn ticks c = map (framed_by_client ticks c 1) (enumerate_from 0 (segments_sent_by c.client c.server))

abbrev pub down_turn : ℕ → WrittenConnection → List Framed
down_turn ticks c = map (framed_by_server ticks c 2) (enumerate_from 0 (segments_sent_by c.server c.client))

-- ---- order

-- key a is lower than key b: by moment, then connection, turn and place
abbrev pub is_key_below : SegKey → SegKey → Bool
is_key_below a b =
    nat_lt a.moment b.moment || (a.moment == b.moment
    && (nat_lt a.conn b.conn || (a.conn == b.conn
    && (nat_lt a.turn b.turn || (a.turn == b.turn && nat_lt a.place b.place)))))

abbrev pub has_lower_key : {X : Type 0} → (X → SegKey) → X → X → Bool
has_lower_key key x y = is_key_below (key x) (key y)

abbrev pub below : Framed → Framed → Bool
below = has_lower_key (λ x. x.key)

-- a list with x before its first segment whose key is no lower: a list in order stays in order
abbrev pub insert_by_key : Framed → List Framed → List Framed
insert_by_key x [] = x ∷ []
insert_by_key x (y ∷ ys) = if is_key_below y.key x.key then y ∷ insert_by_key x ys else x ∷ y ∷ ys

unfoldable pub sorted_by_key : List Framed → List Framed
sorted_by_key [] = []
sorted_by_key (x ∷ xs) = insert_by_key x (sorted_by_key xs)

-- nothing is written at the horizon
abbrev pub segments_before_horizon : ℕ → List Framed → List Framed
segments_before_horizon ticks xs = filter (λ x. nat_lt x.key.moment (horizon ticks)) xs

-- turn by turn
abbrev pub written_turns : ℕ → WrittenConnection → List Framed
written_turns ticks c = segments_before_horizon ticks ((opening_turn c.refused ticks c ++ up_turn ticks c) ++ down_turn ticks c)

unfoldable pub written_segments : ℕ → WrittenConnection → List Framed
written_segments ticks c = sorted_by_key (written_turns ticks c)
