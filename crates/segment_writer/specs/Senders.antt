-- What a sender writes in its turn.
use Rattle.std.specs.Prelude.{ℕ, ◌+◌, ◌%◌, Bool, true, false, not, List, [], ◌∷◌, ◌++◌, map, Option, Some, None, if◌then◌else◌}
use Rattle.std.specs.List.{enumerate_from}
use Rattle.pcap_records.specs.declared.unit.Unit.{Unit}
use Rattle.pcap_records.specs.Instants.{ticks_of}
use Rattle.pcap_records.specs.Writing.{record_bytes}
use Rattle.frame_headers.specs.Flags
use Rattle.frame_headers.specs.Headers.{headers}
use Rattle.frame_headers.specs.declared.written.Header.{Header}
use Rattle.reassembly.specs.RecordedLines.{Line}
use Rattle.reassembly.specs.Positions.{sequence_space}
use Rattle.segment_writer.specs.WrittenSegments.{WrittenSide, WrittenConnection, Piece, SentSegment, segments_sent_by, segments_before_horizon, sequence_number, acknowledgment_number, opening_segment}
use Rattle.segment_writer.specs.declared.framed.Framed.{Framed}
use Rattle.segment_writer.specs.declared.senders.Sender.{Sender}
use Rattle.segment_writer.specs.declared.senders.Turn.{Turn}
use Rattle.segment_writer.specs.declared.senders.Turn.TheVariants.{Opening, ClientLine, ServerLine}
use Rattle.segment_writer.specs.declared.turns.Ending.{Ending}

-- ---- who sends

abbrev pub turn_number : Turn → ℕ
turn_number Opening = 0
turn_number ClientLine = 1
turn_number ServerLine = 2

abbrev pub client_in : Unit → WrittenConnection → Turn → Sender
client_in unit c turn = record {
  unit = unit;
  conn = c.number;
  turn = turn;
  is_server = false;
  mac_from = c.client.host.mac;
  mac_to = c.server.host.mac;
  vlan = c.vlan;
  from = c.client.host.peer;
  to = c.server.host.peer;
  base = c.client.base;
  peer_base = c.server.base;
}

abbrev pub peer_in : Sender → Turn → Sender
peer_in s turn = record {
  unit = s.unit;
  conn = s.conn;
  turn = turn;
  is_server = not s.is_server;
  mac_from = s.mac_to;
  mac_to = s.mac_from;
  vlan = s.vlan;
  from = s.to;
  to = s.from;
  base = s.peer_base;
  peer_base = s.base;
}

abbrev pub in_turn : Sender → Turn → Sender
in_turn s turn = record {
  unit = s.unit;
  conn = s.conn;
  turn = turn;
  is_server = s.is_server;
  mac_from = s.mac_from;
  mac_to = s.mac_to;
  vlan = s.vlan;
  from = s.from;
  to = s.to;
  base = s.base;
  peer_base = s.peer_base;
}

-- a sender's own side with a line, and its peer's
abbrev pub own_side : Sender → Line → WrittenSide
own_side s line = record { host = record { mac = s.mac_from; peer = s.from }; base = s.base; line = line }

abbrev pub peer_side : Sender → Line → WrittenSide
peer_side s line = record { host = record { mac = s.mac_to; peer = s.to }; base = s.peer_base; line = line }

-- ---- what it sends

abbrev pub header_with : Sender → ℕ → ℕ → ℕ → Header
header_with s seq ack flags = record {
  mac_from = s.mac_from;
  mac_to = s.mac_to;
  vlan = s.vlan;
  from = s.from;
  to = s.to;
  seq = seq;
  ack = ack;
  flags = flags;
}

abbrev pub frame_with : Header → List ℕ → List ℕ
frame_with h payload = headers h payload ++ payload

abbrev pub framed_by : Sender → ℕ × SentSegment → Framed
framed_by s (place, sent) = record {
  key = record { moment = sent.at; conn = s.conn; turn = turn_number s.turn; place = place };
  bytes = record_bytes (ticks_of s.unit) sent.at (frame_with (header_with s sent.seq sent.ack sent.flags) sent.payload);
}

-- the segment of a piece; PSH stands on a chunk's last one
abbrev pub piece_segment : ℕ → ℕ → Piece → SentSegment
piece_segment seq ack p = record {
  at = p.at;
  seq = seq;
  ack = ack;
  flags = if p.ends then Flags.psh_flag + Flags.ack_flag else Flags.ack_flag;
  payload = p.bytes;
}

abbrev pub ending_segments : WrittenSide → WrittenSide → ℕ → Option Ending → List SentSegment
ending_segments own peer n None = []
ending_segments own peer n (Some e) = record { at = e.at; seq = sequence_number own n; ack = acknowledgment_number peer e.at; flags = e.flags; payload = [] } ∷ []

-- all segments that it writes of its line, before the horizon
unfoldable pub line_written : Sender → Line → Line → List Framed
line_written s own peer = segments_before_horizon (ticks_of s.unit) (map (framed_by s) (enumerate_from 0 (segments_sent_by (own_side s own) (peer_side s peer))))

-- ---- the opening

abbrev pub next_number : ℕ → ℕ
next_number base = (base + 1) % sequence_space

-- SYN, then SYN ACK and ACK, or RST ACK if the connection is refused
abbrev pub opening_by : Bool → Sender → Sender → ℕ → List Framed
opening_by false client server at =
    framed_by client (0, opening_segment at client.base 0 Flags.syn_flag)
    ∷ framed_by server (1, opening_segment at server.base (next_number client.base) (Flags.syn_flag + Flags.ack_flag))
    ∷ framed_by client (2, opening_segment at (next_number client.base) (next_number server.base) Flags.ack_flag) ∷ []
opening_by true client server at =
    framed_by client (0, opening_segment at client.base 0 Flags.syn_flag)
    ∷ framed_by server (1, opening_segment at 0 (next_number client.base) (Flags.rst_flag + Flags.ack_flag)) ∷ []

abbrev pub opening_written : Bool → Sender → Sender → ℕ → List Framed
opening_written refused client server at = segments_before_horizon (ticks_of client.unit) (opening_by refused client server at)

-- ---- a connection

abbrev pub turns_written : Bool → Sender → ℕ → Line → Line → List Framed
turns_written refused client at up down =
    (opening_written refused client (peer_in client Opening) at ++ line_written (in_turn client ClientLine) up down)
    ++ line_written (peer_in client ServerLine) down up
