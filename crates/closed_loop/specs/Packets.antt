-- What each packet of a connection waits for, by the recording. Packets are known by the numbers of their records.
use Rattle.std.specs.Prelude.{◌≡◌, ℕ, zero, suc, ◌-◌, ◌==◌, max, nat_lt, Bool, true, false, ◌&&◌, ◌||◌, if◌then◌else◌, List, [], ◌∷◌, ◌++◌, find, Option, Some, None, unwrap_or, slice_get}
use Rattle.std.specs.List.{last_or, prefix_len}
use Rattle.conn_table.specs.declared.conns.Member.{Member}
use Rattle.reassembly.specs.MemberSpans.{own_members, is_reset_member}
use Rattle.closed_loop.specs.declared.packets.Packet.{Packet}
use Rattle.closed_loop.specs.declared.manners.Manners.{Manners}
use Rattle.closed_loop.specs.Times.{instant_in, spread, IsPassed}
use Rattle.closed_loop.specs.declared.packets.Before.{Before}
use Rattle.closed_loop.specs.declared.packets.Seen.{Seen}
use Rattle.closed_loop.specs.declared.packets.Bringers as code

-- what the client receives comes down, what the server receives comes up
abbrev pub received : {X : Type 0} → Bool → X → X → X
received true up down = down
received false up down = up

-- of each byte that a side receives, and then of the FIN, the number of the record that brings it
pub record Bringers : Type 0 where
  pub up : List ℕ
  pub down : List ℕ

-- whether a side waits for the other
abbrev pub waits : Manners → Bool → Bool
waits manners true = manners.client_waits
waits manners false = manners.server_waits

-- the last packet before it of its side, or else the opening
abbrev pub last_of_side : Bool → List Member → Option Member
last_of_side client before = last_or None (own_members client before)

abbrev pub own_before : Member → List Member → Member → Member
own_before opening before m = unwrap_or (last_of_side m.from_client before) opening

-- the first reset before it, or else the opening
abbrev pub reset_before : Member → List Member → Member
reset_before opening before = unwrap_or (find is_reset_member before) opening

-- it waits for the other side unless it stays together with the packet before it of its own
abbrev pub is_waiting : Manners → Member → Member → Member → Bool
is_waiting manners opening own m = waits manners m.from_client && (nat_lt own.at m.at || own.index == opening.index)

-- how much of what its side receives had come before its record
abbrev pub heard_before : Bringers → Member → ℕ
heard_before brought m = prefix_len (λ by. nat_lt by m.index) (received m.from_client brought.up brought.down)

abbrev pub heard_by : Manners → Bringers → Member → Member → Member → ℕ
heard_by manners brought opening own m = if is_waiting manners opening own m then heard_before brought m else 0

-- the record that brings the last of the first n bytes, or else the opening
abbrev pub source_of : List ℕ → ℕ → ℕ → ℕ
source_of brought opening zero = opening
source_of brought opening (suc n) = unwrap_or (slice_get brought n) opening

-- how long it comes after all that it waits for
abbrev pub pause_of : List (Option ℕ) → Member → Member → ℕ → Member → ℕ
pause_of recorded own reset source m = m.at - max (max own.at reset.at) (instant_in recorded source)

abbrev pub packet_by : List (Option ℕ) → Member → Member → ℕ → ℕ → Member → Packet
packet_by recorded own reset heard source m = record {
  number = m.index;
  from_client = m.from_client;
  own = own.index;
  reset = reset.index;
  is_apart = nat_lt own.at m.at;
  heard = heard;
  source = source;
  pause = pause_of recorded own reset source m;
}

-- the packet of member m, which follows the packets `own` and `reset` and waits for `heard` bytes
abbrev pub packet_after : List (Option ℕ) → Bringers → Member → Member → Member → ℕ → Member → Packet
packet_after recorded brought opening own reset heard m =
    packet_by recorded own reset heard (source_of (received m.from_client brought.up brought.down) opening.index heard) m

-- the packet of member m, if these are before it
abbrev pub packet_of : Manners → List (Option ℕ) → Bringers → Member → List Member → Member → Packet
packet_of manners recorded brought opening before m =
    packet_after recorded brought opening (own_before opening before m) (reset_before opening before)
    (heard_by manners brought opening (own_before opening before m) m) m

-- the packets of the members after some
abbrev pub packets_after : Manners → List (Option ℕ) → Bringers → Member → List Member → List Member → List Packet
packets_after manners recorded brought opening before [] = []
packets_after manners recorded brought opening before (m ∷ ms) =
    packet_of manners recorded brought opening before m ∷ packets_after manners recorded brought opening (before ++ m ∷ []) ms

-- the packets of a connection but its opening
abbrev pub packets_of : Manners → List (Option ℕ) → Bringers → List Member → List Packet
packets_of manners recorded brought [] = []
packets_of manners recorded brought (opening ∷ ms) = packets_after manners recorded brought opening (opening ∷ []) ms

-- ---- what a pass over the members of a connection keeps of those before

abbrev pub bringers_view : code.Bringers → Bringers
bringers_view b = record { up = spread b.up.now; down = spread b.down.now }

-- b has the last packets of these members, and their first reset
pub record IsBefore (before : List Member) (b : Before) : Type 0 where
  pub client : b.client ≡ last_of_side true before
  pub server : b.server ≡ last_of_side false before
  pub reset : b.reset ≡ find is_reset_member before

-- these runs come before the record
pub record IsSeen (b : code.Bringers) (s : Seen) : Type 0 where
  pub up : IsPassed b.up.now s.up s.number
  pub down : IsPassed b.down.now s.down s.number
