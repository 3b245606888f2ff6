-- Worked rows: what the definitions give, beside values from outside.
use Rattle.std.specs.Prelude.{◌≡◌, ℕ, List, [], ◌∷◌, codes, Option, Some, None, false, ◌+◌, map, length}
use Rattle.toxicap.specs.Words.{Connection, connections, unopened_count, client, server, second_client, row_segment, session, delivered_connection, MetProxy}
use Rattle.toxicap.specs.Words.{written_connection, WrittenConnection, written_segments, keys_of, contribution, capture_of, Peer, IndexedSegment, client_of}
use Rattle.toxicap.specs.Words.{server_base}

-- ---- what is written of a session

-- the connection that the plain session opens, as it is written under a proxy
abbrev pub session_connection : ℕ → Connection
session_connection number = record {
  number = number;
  opening = record {
    at = 1000000;
    fields = record { mac_from = session.mac_client; mac_to = session.mac_server; vlan = None; from = client; to = server; seq = 1000; ack = 0; flags = 2; payload = [] };
  };
  later = [];
}

abbrev pub session_under : Option MetProxy → WrittenConnection
session_under met = written_connection 0 None client server session (delivered_connection 1000000 42 0 0 met session)

-- the capture of the plain session, 449 bytes
abbrev pub session_bytes : List ℕ
session_bytes =
    212 ∷ 195 ∷ 178 ∷ 161 ∷ 2 ∷ 0 ∷ 4 ∷ 0 ∷ 0 ∷ 0 ∷ 0 ∷ 0 ∷ 0 ∷ 0 ∷ 0 ∷ 0 ∷ 255 ∷ 255 ∷ 0 ∷ 0 ∷ 1 ∷ 0 ∷ 0 ∷ 0 ∷
    1 ∷ 0 ∷ 0 ∷ 0 ∷ 0 ∷ 0 ∷ 0 ∷ 0 ∷ 54 ∷ 0 ∷ 0 ∷ 0 ∷ 54 ∷ 0 ∷ 0 ∷ 0 ∷ 2 ∷ 0 ∷ 0 ∷ 0 ∷ 0 ∷ 2 ∷ 2 ∷ 0 ∷
    0 ∷ 0 ∷ 0 ∷ 1 ∷ 8 ∷ 0 ∷ 69 ∷ 0 ∷ 0 ∷ 40 ∷ 0 ∷ 0 ∷ 64 ∷ 0 ∷ 64 ∷ 6 ∷ 38 ∷ 206 ∷ 10 ∷ 0 ∷ 0 ∷ 1 ∷ 10 ∷ 0 ∷
    0 ∷ 2 ∷ 156 ∷ 64 ∷ 0 ∷ 80 ∷ 0 ∷ 0 ∷ 3 ∷ 232 ∷ 0 ∷ 0 ∷ 0 ∷ 0 ∷ 80 ∷ 2 ∷ 255 ∷ 255 ∷ 251 ∷ 103 ∷ 0 ∷ 0 ∷ 1 ∷ 0 ∷
    0 ∷ 0 ∷ 0 ∷ 0 ∷ 0 ∷ 0 ∷ 54 ∷ 0 ∷ 0 ∷ 0 ∷ 54 ∷ 0 ∷ 0 ∷ 0 ∷ 2 ∷ 0 ∷ 0 ∷ 0 ∷ 0 ∷ 1 ∷ 2 ∷ 0 ∷ 0 ∷ 0 ∷
    0 ∷ 2 ∷ 8 ∷ 0 ∷ 69 ∷ 0 ∷ 0 ∷ 40 ∷ 0 ∷ 0 ∷ 64 ∷ 0 ∷ 64 ∷ 6 ∷ 38 ∷ 206 ∷ 10 ∷ 0 ∷ 0 ∷ 2 ∷ 10 ∷ 0 ∷ 0 ∷ 1 ∷
    0 ∷ 80 ∷ 156 ∷ 64 ∷ 0 ∷ 0 ∷ 19 ∷ 136 ∷ 0 ∷ 0 ∷ 3 ∷ 233 ∷ 80 ∷ 18 ∷ 255 ∷ 255 ∷ 231 ∷ 206 ∷ 0 ∷ 0 ∷ 1 ∷ 0 ∷ 0 ∷ 0 ∷
    0 ∷ 0 ∷ 0 ∷ 0 ∷ 54 ∷ 0 ∷ 0 ∷ 0 ∷ 54 ∷ 0 ∷ 0 ∷ 0 ∷ 2 ∷ 0 ∷ 0 ∷ 0 ∷ 0 ∷ 2 ∷ 2 ∷ 0 ∷ 0 ∷ 0 ∷ 0 ∷ 1 ∷
    8 ∷ 0 ∷ 69 ∷ 0 ∷ 0 ∷ 40 ∷ 0 ∷ 0 ∷ 64 ∷ 0 ∷ 64 ∷ 6 ∷ 38 ∷ 206 ∷ 10 ∷ 0 ∷ 0 ∷ 1 ∷ 10 ∷ 0 ∷ 0 ∷ 2 ∷ 156 ∷ 64 ∷
    0 ∷ 80 ∷ 0 ∷ 0 ∷ 3 ∷ 233 ∷ 0 ∷ 0 ∷ 19 ∷ 137 ∷ 80 ∷ 16 ∷ 255 ∷ 255 ∷ 231 ∷ 207 ∷ 0 ∷ 0 ∷ 1 ∷ 0 ∷ 0 ∷ 0 ∷ 232 ∷ 3 ∷
    0 ∷ 0 ∷ 59 ∷ 0 ∷ 0 ∷ 0 ∷ 59 ∷ 0 ∷ 0 ∷ 0 ∷ 2 ∷ 0 ∷ 0 ∷ 0 ∷ 0 ∷ 2 ∷ 2 ∷ 0 ∷ 0 ∷ 0 ∷ 0 ∷ 1 ∷ 8 ∷ 0 ∷
    69 ∷ 0 ∷ 0 ∷ 45 ∷ 0 ∷ 0 ∷ 64 ∷ 0 ∷ 64 ∷ 6 ∷ 38 ∷ 201 ∷ 10 ∷ 0 ∷ 0 ∷ 1 ∷ 10 ∷ 0 ∷ 0 ∷ 2 ∷ 156 ∷ 64 ∷ 0 ∷ 80 ∷
    0 ∷ 0 ∷ 3 ∷ 233 ∷ 0 ∷ 0 ∷ 19 ∷ 137 ∷ 80 ∷ 24 ∷ 255 ∷ 255 ∷ 163 ∷ 240 ∷ 0 ∷ 0 ∷ 104 ∷ 101 ∷ 108 ∷ 108 ∷ 111 ∷ 1 ∷ 0 ∷ 0 ∷
    0 ∷ 208 ∷ 7 ∷ 0 ∷ 0 ∷ 54 ∷ 0 ∷ 0 ∷ 0 ∷ 54 ∷ 0 ∷ 0 ∷ 0 ∷ 2 ∷ 0 ∷ 0 ∷ 0 ∷ 0 ∷ 2 ∷ 2 ∷ 0 ∷ 0 ∷ 0 ∷ 0 ∷
    1 ∷ 8 ∷ 0 ∷ 69 ∷ 0 ∷ 0 ∷ 40 ∷ 0 ∷ 0 ∷ 64 ∷ 0 ∷ 64 ∷ 6 ∷ 38 ∷ 206 ∷ 10 ∷ 0 ∷ 0 ∷ 1 ∷ 10 ∷ 0 ∷ 0 ∷ 2 ∷ 156 ∷
    64 ∷ 0 ∷ 80 ∷ 0 ∷ 0 ∷ 3 ∷ 238 ∷ 0 ∷ 0 ∷ 19 ∷ 137 ∷ 80 ∷ 17 ∷ 255 ∷ 255 ∷ 231 ∷ 201 ∷ 0 ∷ 0 ∷ 1 ∷ 0 ∷ 0 ∷ 0 ∷ 184 ∷
    11 ∷ 0 ∷ 0 ∷ 54 ∷ 0 ∷ 0 ∷ 0 ∷ 54 ∷ 0 ∷ 0 ∷ 0 ∷ 2 ∷ 0 ∷ 0 ∷ 0 ∷ 0 ∷ 1 ∷ 2 ∷ 0 ∷ 0 ∷ 0 ∷ 0 ∷ 2 ∷ 8 ∷
    0 ∷ 69 ∷ 0 ∷ 0 ∷ 40 ∷ 0 ∷ 0 ∷ 64 ∷ 0 ∷ 64 ∷ 6 ∷ 38 ∷ 206 ∷ 10 ∷ 0 ∷ 0 ∷ 2 ∷ 10 ∷ 0 ∷ 0 ∷ 1 ∷ 0 ∷ 80 ∷ 156 ∷
    64 ∷ 0 ∷ 0 ∷ 19 ∷ 137 ∷ 0 ∷ 0 ∷ 3 ∷ 239 ∷ 80 ∷ 17 ∷ 255 ∷ 255 ∷ 231 ∷ 200 ∷ 0 ∷ 0 ∷ []

-- the capture of the plain session under a disabled proxy, 164 bytes
abbrev pub refused_bytes : List ℕ
refused_bytes =
    212 ∷ 195 ∷ 178 ∷ 161 ∷ 2 ∷ 0 ∷ 4 ∷ 0 ∷ 0 ∷ 0 ∷ 0 ∷ 0 ∷ 0 ∷ 0 ∷ 0 ∷ 0 ∷ 255 ∷ 255 ∷ 0 ∷ 0 ∷ 1 ∷ 0 ∷ 0 ∷ 0 ∷
    1 ∷ 0 ∷ 0 ∷ 0 ∷ 0 ∷ 0 ∷ 0 ∷ 0 ∷ 54 ∷ 0 ∷ 0 ∷ 0 ∷ 54 ∷ 0 ∷ 0 ∷ 0 ∷ 2 ∷ 0 ∷ 0 ∷ 0 ∷ 0 ∷ 2 ∷ 2 ∷ 0 ∷
    0 ∷ 0 ∷ 0 ∷ 1 ∷ 8 ∷ 0 ∷ 69 ∷ 0 ∷ 0 ∷ 40 ∷ 0 ∷ 0 ∷ 64 ∷ 0 ∷ 64 ∷ 6 ∷ 38 ∷ 206 ∷ 10 ∷ 0 ∷ 0 ∷ 1 ∷ 10 ∷ 0 ∷
    0 ∷ 2 ∷ 156 ∷ 64 ∷ 0 ∷ 80 ∷ 0 ∷ 0 ∷ 3 ∷ 232 ∷ 0 ∷ 0 ∷ 0 ∷ 0 ∷ 80 ∷ 2 ∷ 255 ∷ 255 ∷ 251 ∷ 103 ∷ 0 ∷ 0 ∷ 1 ∷ 0 ∷
    0 ∷ 0 ∷ 0 ∷ 0 ∷ 0 ∷ 0 ∷ 54 ∷ 0 ∷ 0 ∷ 0 ∷ 54 ∷ 0 ∷ 0 ∷ 0 ∷ 2 ∷ 0 ∷ 0 ∷ 0 ∷ 0 ∷ 1 ∷ 2 ∷ 0 ∷ 0 ∷ 0 ∷
    0 ∷ 2 ∷ 8 ∷ 0 ∷ 69 ∷ 0 ∷ 0 ∷ 40 ∷ 0 ∷ 0 ∷ 64 ∷ 0 ∷ 64 ∷ 6 ∷ 38 ∷ 206 ∷ 10 ∷ 0 ∷ 0 ∷ 2 ∷ 10 ∷ 0 ∷ 0 ∷ 1 ∷
    0 ∷ 80 ∷ 156 ∷ 64 ∷ 0 ∷ 0 ∷ 0 ∷ 0 ∷ 0 ∷ 0 ∷ 3 ∷ 233 ∷ 80 ∷ 20 ∷ 255 ∷ 255 ∷ 251 ∷ 84 ∷ 0 ∷ 0 ∷ []

abbrev pub SessionWritten : Type 0
SessionWritten = capture_of 1000000 (written_segments 1000000 (session_under None)) ≡ session_bytes

abbrev pub disabled : Option MetProxy
disabled = Some (record { number = 0; enabled = false; up = []; down = [] })

abbrev pub RefusedWritten : Type 0
RefusedWritten = capture_of 1000000 (written_segments 1000000 (session_under disabled)) ≡ refused_bytes

-- a disabled proxy: two segments of the opening, and a line that says so
abbrev pub RefusedPart : Type 0
RefusedPart =
    ((contribution 1000000 (session_connection 7) 3 42 disabled).line ≡ codes "7 10.0.0.1:40000 > 10.0.0.2:80 proxy 0 up 0/0/0 refused max 0 down 0/0/0 refused max 0\n")
    × (keys_of (contribution 1000000 (session_connection 7) 3 42 disabled).segments ≡ (1000000, 7, 0, 0) ∷ (1000000, 7, 0, 1) ∷ [])

-- ---- grouping: segments with their senders, flags and numbers, and the connections that they make

-- what a row looks at: each connection's number, client, first sequence number, number of members and server's number
pub record ConnectionSummary : Type 0 where
  pub number : ℕ
  pub client : Peer
  pub first : ℕ
  pub members : ℕ
  pub server_base : Option ℕ

abbrev pub summary_of : Connection → ConnectionSummary
summary_of c = record { number = c.number; client = client_of c; first = c.opening.fields.seq; members = length c.later + 1; server_base = server_base c }

-- an opening that is sent again begins nothing; one with another number begins a second session
abbrev pub repeated : List IndexedSegment
repeated =
    row_segment 0 client server 2 1000 ∷ row_segment 1 client server 2 1000 ∷ row_segment 2 server client 18 5000 ∷ row_segment 3 client server 24 1001 ∷ row_segment 4 client server 2 9000 ∷ row_segment 5 client server 24 9001 ∷ []

abbrev pub RepeatedGrouped : Type 0
RepeatedGrouped =
    (map summary_of (connections repeated)
    ≡ record { number = 0; client = client; first = 1000; members = 4; server_base = Some 5000 } ∷ record { number = 1; client = client; first = 9000; members = 2; server_base = None } ∷ [])
    × (unopened_count repeated ≡ 0)

-- client, second client, client
abbrev pub InTurnGrouped : Type 0
InTurnGrouped =
    map summary_of (connections (row_segment 0 client server 2 1000 ∷ row_segment 1 second_client server 2 2000 ∷ row_segment 2 client server 2 9000 ∷ []))
    ≡ record { number = 0; client = client; first = 1000; members = 1; server_base = None }
    ∷ record { number = 1; client = second_client; first = 2000; members = 1; server_base = None }
    ∷ record { number = 2; client = client; first = 9000; members = 1; server_base = None }
    ∷ []

-- the pair that is seen first opens last
abbrev pub unopened_first : List IndexedSegment
unopened_first = row_segment 0 server client 16 7000 ∷ row_segment 1 second_client server 2 2000 ∷ row_segment 2 client server 2 1000 ∷ []

abbrev pub UnopenedFirstGrouped : Type 0
UnopenedFirstGrouped =
    (map summary_of (connections unopened_first)
    ≡ record { number = 0; client = second_client; first = 2000; members = 1; server_base = None } ∷ record { number = 1; client = client; first = 1000; members = 1; server_base = None } ∷ [])
    × (unopened_count unopened_first ≡ 1)

-- openings of both sides are two connections
abbrev pub BothSidesGrouped : Type 0
BothSidesGrouped =
    map summary_of (connections (row_segment 0 client server 2 1000 ∷ row_segment 1 server client 2 1000 ∷ []))
    ≡ record { number = 0; client = client; first = 1000; members = 1; server_base = None } ∷ record { number = 1; client = server; first = 1000; members = 1; server_base = None } ∷ []

-- an answer after the first reset, one that is itself the reset, and one of the client's give no number
abbrev pub LateAnswersGrouped : Type 0
LateAnswersGrouped =
    (map summary_of (connections (row_segment 0 client server 2 1000 ∷ row_segment 1 client server 4 1001 ∷ row_segment 2 server client 18 5000 ∷ []))
    ≡ record { number = 0; client = client; first = 1000; members = 3; server_base = None } ∷ [])
    × (map summary_of (connections (row_segment 0 client server 2 1000 ∷ row_segment 1 server client 22 5000 ∷ []))
    ≡ record { number = 0; client = client; first = 1000; members = 2; server_base = None } ∷ [])
    × (map summary_of (connections (row_segment 0 client server 2 1000 ∷ row_segment 1 client server 18 5000 ∷ row_segment 2 server client 18 6000 ∷ []))
    ≡ record { number = 0; client = client; first = 1000; members = 3; server_base = Some 6000 } ∷ [])
