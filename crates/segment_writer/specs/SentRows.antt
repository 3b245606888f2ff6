-- Worked rows: the segments of small connections, beside values from outside.
use Rattle.std.specs.Prelude.{◌≡◌, ℕ, List, [], ◌∷◌, map, Bool, true, false, None}
use Rattle.conn_table.specs.RowSegments.{client, server}
use Rattle.reassembly.specs.RecordedLines.{Line, live, fin, close, reset, empty_line}
use Rattle.reassembly.specs.RowLines.{hello, line_with}
use Rattle.segment_writer.specs.declared.framed.Framed.{Framed}
use Rattle.segment_writer.specs.WrittenSegments.{WrittenConnection, SentSegment, pieces, segments_sent_by, written_segments}

-- a connection of these lines, opened at the second second, whose sides count from 1,000 and 5,000
abbrev pub connection_with : Bool → Line → Line → WrittenConnection
connection_with refused up down = record {
  number = 7;
  opened = 1000000;
  vlan = None;
  refused = refused;
  client = record { host = record { mac = 2 ∷ 0 ∷ 0 ∷ 0 ∷ 0 ∷ 1 ∷ []; peer = client }; base = 1000; line = up };
  server = record { host = record { mac = 2 ∷ 0 ∷ 0 ∷ 0 ∷ 0 ∷ 2 ∷ []; peer = server }; base = 5000; line = down };
}

-- sequence number, acknowledgment number and flags of each segment of a line
abbrev pub sent_numbers : List SentSegment → List (ℕ × ℕ × ℕ)
sent_numbers sent = map (λ s. (s.seq, s.ack, s.flags)) sent

abbrev pub keys_of : List Framed → List (ℕ × ℕ × ℕ × ℕ)
keys_of framed = map (λ x. (x.key.moment, x.key.conn, x.key.turn, x.key.place)) framed

-- the client's bytes come after the server's FIN, and acknowledge it
abbrev pub LaterSent : Type 0
LaterSent =
    let c = connection_with false (line_with (hello 1101000) (fin 1101000)) (line_with [] (fin 1003000)) in
    (sent_numbers (segments_sent_by c.client c.server) ≡ (1001, 5002, 24) ∷ (1006, 5002, 17) ∷ [])
    × (sent_numbers (segments_sent_by c.server c.client) ≡ (5001, 1001, 17) ∷ [])

-- bytes of both directions at one instant: neither acknowledges the other, nor a reset the close
abbrev pub at_once : WrittenConnection
at_once = connection_with false (line_with (hello 1000000) (close 1000000)) (line_with (hello 1000000) (reset 1000000))

abbrev pub CrossingSent : Type 0
CrossingSent =
    (sent_numbers (segments_sent_by at_once.client at_once.server) ≡ (1001, 5001, 24) ∷ (1006, 5001, 17) ∷ [])
    × (sent_numbers (segments_sent_by at_once.server at_once.client) ≡ (5001, 1001, 24) ∷ (5006, 1001, 20) ∷ [])

-- everything at the instant of the opening: three turns, in order of key
abbrev pub TurnsInOrder : Type 0
TurnsInOrder =
    keys_of (written_segments 1000000 at_once)
    ≡ (1000000, 7, 0, 0) ∷ (1000000, 7, 0, 1) ∷ (1000000, 7, 0, 2) ∷ (1000000, 7, 1, 0) ∷ (1000000, 7, 1, 1) ∷ (1000000, 7, 2, 0) ∷ (1000000, 7, 2, 1) ∷ []

abbrev pub RefusedInOrder : Type 0
RefusedInOrder = keys_of (written_segments 1000000 (connection_with true empty_line empty_line)) ≡ (1000000, 7, 0, 0) ∷ (1000000, 7, 0, 1) ∷ []

abbrev pub NoneAtHorizon : Type 0
NoneAtHorizon =
    keys_of (written_segments 1000000 (connection_with false (line_with (hello 4294967295999999) (fin 4294967296000000)) (line_with (hello 4294967296000000) live)))
    ≡ (1000000, 7, 0, 0) ∷ (1000000, 7, 0, 1) ∷ (1000000, 7, 0, 2) ∷ (4294967295999999, 7, 1, 0) ∷ []

-- a chunk in pieces of at most two bytes: only the last one has its end
abbrev pub PiecesCut : Type 0
PiecesCut =
    pieces 2 2 (record { value = 1; at = 5; starts = true } ∷ record { value = 2; at = 5; starts = false } ∷ record { value = 3; at = 5; starts = false } ∷ record { value = 4; at = 6; starts = true } ∷ [])
    ≡ record { at = 5; bytes = 1 ∷ 2 ∷ []; ends = false } ∷ record { at = 5; bytes = 3 ∷ []; ends = true } ∷ record { at = 6; bytes = 4 ∷ []; ends = true } ∷ []
