-- The segments of a connection as they were written before frames with a tag. Records of today have a VLAN, which is `None` here.
use Rattle.std.specs.Prelude.{ℕ, ◌+◌, List, [], ◌∷◌, ◌++◌, length, map, Bool, true, false, None, unwrap_or}
use Rattle.std.specs.List.{enumerate_from}
use Rattle.pcap_records.specs.Writing.{record_bytes}
use Rattle.pcap_records.specs.Endian.{big_bytes}
use Rattle.frame_headers.specs.Layout.{ipv4_type, tcp_len}
use Rattle.frame_headers.specs.Headers.{ipv4, tcp}
use Rattle.frame_headers.specs.declared.peers.Peer.{Peer}
use Rattle.frame_headers.specs.declared.written.Header.{Header}
use Rattle.reassembly.specs.RecordedLines.{RecordedConnection}
use Rattle.toxic_defs.specs.DeliveredLines.{DeliveredConnection}
use Rattle.segment_writer.specs.declared.framed.Framed.{Framed}
use Rattle.segment_writer.specs.WrittenSegments.{Host, WrittenConnection, SentSegment, segments_sent_by, syn_segment, syn_ack_segment, ack_segment, refusal_segment, segments_before_horizon, sorted_by_key}

-- ---- headers

abbrev pub ethernet_before : Header → List ℕ
ethernet_before h = (h.mac_to ++ h.mac_from) ++ big_bytes 2 ipv4_type

unfoldable pub headers_before : Header → List ℕ → List ℕ
headers_before h payload = (ethernet_before h ++ ipv4 h (tcp_len + length payload)) ++ tcp h payload

-- ---- frames

abbrev pub header_of_before : WrittenConnection → Host → Host → SentSegment → Header
header_of_before c from to s = record {
  mac_from = from.mac;
  mac_to = to.mac;
  vlan = None;
  from = from.peer;
  to = to.peer;
  seq = s.seq;
  ack = s.ack;
  flags = s.flags;
}

unfoldable pub frame_bytes_before : WrittenConnection → Host → Host → SentSegment → List ℕ
frame_bytes_before c from to s = headers_before (header_of_before c from to s) s.payload ++ s.payload

abbrev pub framed_segment_before : ℕ → WrittenConnection → ℕ → Host → Host → ℕ × SentSegment → Framed
framed_segment_before ticks c turn from to (place, s) = record {
  key = record { moment = s.at; conn = c.number; turn = turn; place = place };
  bytes = record_bytes ticks s.at (frame_bytes_before c from to s);
}

-- ---- a connection

abbrev pub framed_by_client_before : ℕ → WrittenConnection → ℕ → ℕ × SentSegment → Framed
framed_by_client_before ticks c turn s = framed_segment_before ticks c turn c.client.host c.server.host s

abbrev pub framed_by_server_before : ℕ → WrittenConnection → ℕ → ℕ × SentSegment → Framed
framed_by_server_before ticks c turn s = framed_segment_before ticks c turn c.server.host c.client.host s

-- turn 0: the opening
abbrev pub opening_turn_before : Bool → ℕ → WrittenConnection → List Framed
opening_turn_before false ticks c = framed_by_client_before ticks c 0 (0, syn_segment c) ∷ framed_by_server_before ticks c 0 (1, syn_ack_segment c) ∷ framed_by_client_before ticks c 0 (2, ack_segment c) ∷ []
opening_turn_before true ticks c = framed_by_client_before ticks c 0 (0, syn_segment c) ∷ framed_by_server_before ticks c 0 (1, refusal_segment c) ∷ []

-- turns 1 and 2: the client's line and the server's
abbrev pub up_turn_before : ℕ → WrittenConnection → List Framed
up_turn_before ticks c = map (framed_by_client_before ticks c 1) (enumerate_from 0 (segments_sent_by c.client c.server))

abbrev pub down_turn_before : ℕ → WrittenConnection → List Framed
down_turn_before ticks c = map (framed_by_server_before ticks c 2) (enumerate_from 0 (segments_sent_by c.server c.client))

unfoldable pub written_segments_before : ℕ → WrittenConnection → List Framed
written_segments_before ticks c = sorted_by_key (segments_before_horizon ticks ((opening_turn_before c.refused ticks c ++ up_turn_before ticks c) ++ down_turn_before ticks c))

-- a server without a number of its own counts from 0
abbrev pub written_connection_before : ℕ → Peer → Peer → RecordedConnection → DeliveredConnection → WrittenConnection
written_connection_before number client server r d = record {
  number = number;
  opened = r.opened;
  vlan = None;
  refused = d.refused;
  client = record { host = record { mac = r.mac_client; peer = client }; base = r.client_base; line = d.up };
  server = record { host = record { mac = r.mac_server; peer = server }; base = unwrap_or r.server_base 0; line = d.down };
}
