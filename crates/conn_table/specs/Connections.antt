-- Connections: of each pair of peers and their VLAN the segments from a beginning on, before the pair's next one. The
-- definitions filter the list of all segments.
use Rattle.std.specs.Prelude.{ℕ, List, length, map, filter, Option, Some, None, is_none, Bool, false, ◌&&◌, ◌==◌, not, nat_lt, nat_le}
use Rattle.std.specs.List.{enumerate_from, last_or}
use Rattle.frame_headers.specs.Flags.{has_flag, syn_flag, ack_flag, rst_flag}
use Rattle.conn_table.specs.IndexedSegments.{TimedSegment, IndexedSegment, same_peer, same_pair, pair_of_segment}

abbrev pub last_of : {X : Type 0} → List X → Option X
last_of xs = last_or None xs

-- an opening segment (RFC 9293 section 3.5): SYN, and neither ACK nor RST
abbrev pub is_opening : IndexedSegment → Bool
is_opening s = has_flag s.timed.fields.flags syn_flag && not (has_flag s.timed.fields.flags ack_flag) && not (has_flag s.timed.fields.flags rst_flag)

abbrev pub of_one_pair : IndexedSegment → IndexedSegment → Bool
of_one_pair s x = same_pair (pair_of_segment x) (pair_of_segment s)

-- an opening repeats the last one before it if both have the same sender and sequence number
abbrev pub repeats : Option IndexedSegment → IndexedSegment → Bool
repeats None s = false
repeats (Some last) s = same_peer last.timed.fields.from s.timed.fields.from && (last.timed.fields.seq == s.timed.fields.seq)

-- the openings of its pair that stand earlier in the file
abbrev pub openings_before : List IndexedSegment → IndexedSegment → List IndexedSegment
openings_before segs s = filter (λ x. is_opening x && of_one_pair s x && nat_lt x.index s.index) segs

-- an opening begins a connection unless it repeats the last opening of its pair before it
abbrev pub begins_in : List IndexedSegment → IndexedSegment → Bool
begins_in segs s = is_opening s && not (repeats (last_of (openings_before segs s)) s)

unfoldable pub beginnings : List IndexedSegment → List IndexedSegment
beginnings segs = filter (begins_in segs) segs

-- the beginning of a segment's connection: the last one of its pair that is the segment, or stands before it
abbrev pub beginning_of : List IndexedSegment → IndexedSegment → Option IndexedSegment
beginning_of segs s = last_of (filter (λ b. of_one_pair s b && nat_le b.index s.index) (beginnings segs))

abbrev pub is_at : IndexedSegment → Option IndexedSegment → Bool
is_at b None = false
is_at b (Some x) = x.index == b.index

-- the members of the connection that b begins, except b
abbrev pub later_members : List IndexedSegment → IndexedSegment → List IndexedSegment
later_members segs b = filter (λ s. nat_lt b.index s.index && is_at b (beginning_of segs s)) segs

pub record Connection : Type 0 where
  pub number : ℕ
  pub opening : TimedSegment
  pub later : List TimedSegment

abbrev pub connection_of : List IndexedSegment → ℕ × IndexedSegment → Connection
connection_of segs (number, b) = record { number = number; opening = b.timed; later = map (λ s. s.timed) (later_members segs b) }

-- the connections, numbered in the order of their beginnings
unfoldable pub connections : List IndexedSegment → List Connection
connections segs = map (connection_of segs) (enumerate_from 0 (beginnings segs))

-- a segment before each beginning of its pair, or of a pair that has none
abbrev pub is_unopened : List IndexedSegment → IndexedSegment → Bool
is_unopened segs s = is_none (beginning_of segs s)

unfoldable pub unopened_count : List IndexedSegment → ℕ
unopened_count segs = length (filter (is_unopened segs) segs)
