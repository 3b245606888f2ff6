-- Worked rows: what the definition of a recorded side gives, next to values from outside.
use Rattle.std.specs.Prelude.{◌≡◌, ℕ, List, [], ◌∷◌, Some, None, true, false}
use Rattle.conn_table.specs.IndexedSegments.{TimedSegment}
use Rattle.conn_table.specs.RowSegments.{client, server}
use Rattle.reassembly.specs.Positions.{shifted_start, covers, value_at, is_covered}
use Rattle.reassembly.specs.RecordedLines.{LineByte, live, fin, reset, is_counted_fin, recorded_side}
use Rattle.reassembly.specs.RowLines.{hello}

-- a segment of each side: instant, sequence number, flags, payload
abbrev pub from_client : ℕ → ℕ → ℕ → List ℕ → TimedSegment
from_client at seq flags payload =
    record { at = at; fields = record { mac_from = []; mac_to = []; vlan = None; from = client; to = server; seq = seq; ack = 0; flags = flags; payload = payload } }

abbrev pub from_server : ℕ → ℕ → ℕ → List ℕ → TimedSegment
from_server at seq flags payload =
    record { at = at; fields = record { mac_from = []; mac_to = []; vlan = None; from = server; to = client; seq = seq; ack = 0; flags = flags; payload = payload } }

abbrev pub first_of_chunk : ℕ → ℕ → LineByte
first_of_chunk at value = record { value = value; at = at; starts = true }

abbrev pub same_chunk : ℕ → ℕ → LineByte
same_chunk at value = record { value = value; at = at; starts = false }

-- ---- sequence numbers that wrap: SYN ffffffff, data at 0

abbrev pub wrapping : List TimedSegment
wrapping = from_client 1000000 4294967295 2 [] ∷ from_server 1000100 5000 18 [] ∷ from_client 1001000 0 24 (97 ∷ 98 ∷ []) ∷ []

abbrev pub NumbersWrap : Type 0
NumbersWrap =
    recorded_side wrapping client (Some 4294967295)
    ≡ record { line = record { bytes = first_of_chunk 1001000 97 ∷ same_chunk 1001000 98 ∷ []; end = live }; lost = 0 }

-- ---- an overlap, a byte before position 0, a gap, and a FIN after it

abbrev pub gapped : List TimedSegment
gapped =
    from_client 1000000 1000 2 [] ∷ from_server 1000100 5000 18 [] ∷ from_client 1001000 1001 16 (97 ∷ 98 ∷ 99 ∷ 100 ∷ [])
    ∷ from_client 1002000 1003 16 (88 ∷ 89 ∷ 101 ∷ 102 ∷ []) ∷ from_client 1003000 1000 16 (33 ∷ []) ∷ from_client 1004000 1008 16 (103 ∷ 104 ∷ [])
    ∷ from_client 1005000 1010 17 [] ∷ []

abbrev pub GapKept : Type 0
GapKept =
    recorded_side gapped client (Some 1000)
    ≡ record {
      line = record {
        bytes = first_of_chunk 1001000 97 ∷ same_chunk 1001000 98 ∷ same_chunk 1001000 99 ∷ same_chunk 1001000 100 ∷ first_of_chunk 1002000 101 ∷ same_chunk 1002000 102 ∷ [];
        end = live;
      };
      lost = 2;
    }

abbrev pub NothingSent : Type 0
NothingSent = recorded_side gapped server (Some 5000) ≡ record { line = record { bytes = []; end = live }; lost = 0 }

-- ---- stamps that fell back: the instants are those of the greatest stamp so far, and all bytes are one chunk

abbrev pub fallen : List TimedSegment
fallen = from_client 5000000 2000 2 [] ∷ from_client 5000000 2001 24 (113 ∷ []) ∷ []

abbrev pub StampsFell : Type 0
StampsFell =
    recorded_side fallen client (Some 2000) ≡ record { line = record { bytes = first_of_chunk 5000000 113 ∷ []; end = live }; lost = 0 }

-- ---- a plain session that the server resets: data first, then RST

abbrev pub closed : List TimedSegment
closed =
    from_client 1000000 1000 2 [] ∷ from_server 1000100 5000 18 [] ∷ from_client 1001000 1001 24 (104 ∷ 101 ∷ 108 ∷ 108 ∷ 111 ∷ [])
    ∷ from_client 1002000 1006 17 [] ∷ from_server 1003000 5001 17 [] ∷ from_server 1004000 5002 4 [] ∷ []

-- a whole line keeps its FIN, also if a reset came later
abbrev pub SessionClosed : Type 0
SessionClosed =
    (recorded_side closed client (Some 1000) ≡ record { line = record { bytes = hello 1001000; end = fin 1002000 }; lost = 0 })
    × (recorded_side closed server (Some 5000) ≡ record { line = record { bytes = []; end = fin 1003000 }; lost = 0 })

-- ---- a SYN and a FIN with data, in one segment

abbrev pub in_one : List TimedSegment
in_one = from_client 1000000 1000 3 (104 ∷ 105 ∷ []) ∷ from_server 1000100 5000 18 [] ∷ []

abbrev pub SynFinWithData : Type 0
SynFinWithData =
    recorded_side in_one client (Some 1000)
    ≡ record { line = record { bytes = first_of_chunk 1000000 104 ∷ same_chunk 1000000 105 ∷ []; end = fin 1000000 }; lost = 0 }

-- ---- a FIN whose payload begins before position 0; bytes out of order; a byte after the FIN

abbrev pub crossing : List TimedSegment
crossing = from_client 1 1000 2 [] ∷ from_client 2 1003 16 (99 ∷ []) ∷ from_client 3 1000 17 (33 ∷ 97 ∷ []) ∷ from_client 5 1002 16 (98 ∷ []) ∷ []

abbrev pub EarlyFinCounts : Type 0
EarlyFinCounts =
    recorded_side crossing client (Some 1000)
    ≡ record { line = record { bytes = first_of_chunk 3 97 ∷ []; end = fin 3 }; lost = 2 }

abbrev pub late : List TimedSegment
late = from_client 1 1000 2 [] ∷ from_client 3 1002 17 (98 ∷ []) ∷ from_client 5 1001 16 (97 ∷ []) ∷ from_client 6 1003 16 (99 ∷ []) ∷ []

abbrev pub FinWaits : Type 0
FinWaits =
    recorded_side late client (Some 1000)
    ≡ record { line = record { bytes = first_of_chunk 5 97 ∷ same_chunk 5 98 ∷ []; end = fin 5 }; lost = 1 }

-- ---- a reset of the server: its payload and its FIN do not count, nor does what follows

abbrev pub broken : List TimedSegment
broken =
    from_client 1000000 1000 2 [] ∷ from_server 1000100 5000 18 [] ∷ from_client 1001000 1001 24 (97 ∷ []) ∷ from_server 1002000 5001 21 (120 ∷ [])
    ∷ from_client 1003000 1002 24 (98 ∷ []) ∷ []

abbrev pub ResetEndsBoth : Type 0
ResetEndsBoth =
    (recorded_side broken client (Some 1000) ≡ record { line = record { bytes = first_of_chunk 1001000 97 ∷ []; end = reset 1002000 }; lost = 0 })
    × (recorded_side broken server (Some 5000) ≡ record { line = record { bytes = []; end = reset 1002000 }; lost = 0 })
    × (recorded_side broken server None ≡ record { line = record { bytes = []; end = reset 1002000 }; lost = 0 })

-- ---- payloads at position 2^31 - 1 and at 2^31: the second begins before position 0

abbrev pub far : TimedSegment
far = from_client 7 2147484648 17 (1 ∷ 2 ∷ 3 ∷ [])

abbrev pub too_far : TimedSegment
too_far = from_client 8 2147484649 17 (4 ∷ 5 ∷ [])

abbrev pub FarPositions : Type 0
FarPositions =
    (covers 1000 2147483646 far ≡ false) × (covers 1000 2147483647 far ≡ true) × (covers 1000 2147483649 far ≡ true) × (covers 1000 2147483650 far ≡ false)
    × (value_at 1000 (far ∷ []) 2147483649 ≡ 3) × (is_counted_fin 1000 far ≡ true)
    × (shifted_start 1000 too_far ≡ 0) × (is_covered 1000 (too_far ∷ []) 0 ≡ false) × (is_covered 1000 (too_far ∷ []) 2147483648 ≡ false) × (is_counted_fin 1000 too_far ≡ false)
