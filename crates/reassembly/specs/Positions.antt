-- The positions of a connection's bytes (RFC 9293 section 3.4): the base of each side, and the segment and instant of each byte.
use Rattle.std.specs.Prelude.{ℕ, ◌+◌, ◌-◌, ◌%◌, ◌^◌, List, ◌∷◌, map, length, find, count_by, slice_index, Option, is_some, option_map, unwrap_or, Bool, true, false, ◌&&◌, not, nat_le, nat_lt}
use Rattle.std.specs.List.{take_while, range_with_len, prefix_len}
use Rattle.pcap_records.specs.Instants.{greatest}
use Rattle.frame_headers.specs.declared.peers.Peer.{Peer}
use Rattle.frame_headers.specs.Flags.{has_flag, syn_flag, ack_flag, rst_flag}
use Rattle.conn_table.specs.IndexedSegments.{TimedSegment, same_peer}
use Rattle.conn_table.specs.Connections.{Connection}

-- ---- members and bases

-- a connection's members, in the order of the file
abbrev pub members_of : Connection → List TimedSegment
members_of c = c.opening ∷ c.later

abbrev pub client_of : Connection → Peer
client_of c = c.opening.fields.from

abbrev pub server_of : Connection → Peer
server_of c = c.opening.fields.to

abbrev pub vlan_of : Connection → Option ℕ
vlan_of c = c.opening.fields.vlan

abbrev pub is_reset : TimedSegment → Bool
is_reset m = has_flag m.fields.flags rst_flag

-- The members before the first reset of either side. The reset ends both lines, and nothing else of it counts.
abbrev pub effective_members : List TimedSegment → List TimedSegment
effective_members members = take_while (λ m. not (is_reset m)) members

-- the server's answer to the opening: its SYN and ACK
abbrev pub is_answer : Peer → TimedSegment → Bool
is_answer server m = same_peer m.fields.from server && has_flag m.fields.flags syn_flag && has_flag m.fields.flags ack_flag

abbrev pub client_base : Connection → ℕ
client_base c = c.opening.fields.seq

-- the server's bytes count from the number of its first answer, if it answers before a reset
unfoldable pub server_base : Connection → Option ℕ
server_base c = option_map (λ m. m.fields.seq) (find (is_answer (server_of c)) (effective_members (members_of c)))

-- ---- positions

abbrev pub sequence_space : ℕ
sequence_space = 2 ^ 32

-- Position 0, shifted. A shifted position is 2^31 more than the position, so that it is not negative.
abbrev pub origin : ℕ
origin = 2 ^ 31

abbrev pub one_if : Bool → ℕ
one_if true = 1
one_if false = 0

-- the shifted position at which a segment's payload begins; a SYN takes one number before it, as it does at the base
abbrev pub shifted_position : ℕ → ℕ → ℕ → ℕ
shifted_position base seq flags = (seq + one_if (has_flag flags syn_flag) + (origin + sequence_space) - (base + 1)) % sequence_space

abbrev pub shifted_start : ℕ → TimedSegment → ℕ
shifted_start base m = shifted_position base m.fields.seq m.fields.flags

-- the later bytes of a payload do not wrap
abbrev pub shifted_end : ℕ → TimedSegment → ℕ
shifted_end base m = shifted_start base m + length m.fields.payload

-- the payload has a byte for position x
abbrev pub covers : ℕ → ℕ → TimedSegment → Bool
covers base x m = nat_le (shifted_start base m) (x + origin) && nat_lt (x + origin) (shifted_end base m)

-- the first segment in the file that covers position x
abbrev pub bearer : ℕ → List TimedSegment → ℕ → Option TimedSegment
bearer base members x = find (covers base x) members

abbrev pub is_covered : ℕ → List TimedSegment → ℕ → Bool
is_covered base members x = is_some (bearer base members x)

abbrev pub value_at : ℕ → List TimedSegment → ℕ → ℕ
value_at base members x =
    unwrap_or (option_map (λ m. slice_index m.fields.payload (x + origin - shifted_start base m)) (bearer base members x)) 0

abbrev pub arrival_at : ℕ → List TimedSegment → ℕ → ℕ
arrival_at base members x = unwrap_or (option_map (λ m. m.at) (bearer base members x)) 0

-- when all of the first n positions were there
abbrev pub available_at : ℕ → List TimedSegment → ℕ → ℕ
available_at base members n = greatest (map (arrival_at base members) (range_with_len 0 n))

-- no position from here on is covered
abbrev pub reach : ℕ → List TimedSegment → ℕ
reach base members = greatest (map (λ m. shifted_end base m - origin) members)

abbrev pub first_gap : ℕ → List TimedSegment → ℕ
first_gap base members = prefix_len (is_covered base members) (range_with_len 0 (reach base members))

-- how many positions from n on are covered
abbrev pub covered_count : ℕ → List TimedSegment → ℕ → ℕ
covered_count base members n = count_by (is_covered base members) (range_with_len n (reach base members - n))
