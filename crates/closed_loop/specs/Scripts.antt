-- Scripts: what the closed loop keeps of a connection's recording; hearings: what it takes of a rehearsal.
use Rattle.std.specs.Prelude.{ℕ, ◌+◌, ◌-◌, ◌*◌, ◌^◌, min, max, Bool, ◌&&◌, ◌||◌, List, [], ◌∷◌, drop, find, length, slice_get, Option, Some, None, option_map, unwrap_or}
use Rattle.frame_headers.specs.declared.peers.Peer.{Peer}
use Rattle.frame_headers.specs.Flags.{has_flag, fin_flag, rst_flag}
use Rattle.conn_table.specs.declared.conns.Conn.{Conn}
use Rattle.conn_table.specs.declared.conns.Member.{Member}
use Rattle.reassembly.specs.LineView.{end_instant}
use Rattle.reassembly.specs.RecordedLines.{End, live, fin, close, reset, RecordedConnection}
use Rattle.toxic_defs.specs.DeliveredLines.{DeliveredConnection}
use Rattle.closed_loop.specs.declared.packets.Packet.{Packet}
use Rattle.closed_loop.specs.declared.manners.Manners.{Manners}
use Rattle.closed_loop.specs.Times.{arrivals, earlier}
use Rattle.closed_loop.specs.Packets.{Bringers, packets_of}

-- ---- scripts

-- a connection: the records of its opening, of its client's first FIN or reset, of its end and of its last packet; its client's address; its peers
-- and VLAN as a number; its packets after the opening
pub record ScriptView : Type 0 where
  pub opening : ℕ
  pub farewell : Option ℕ
  pub ended : Option ℕ
  pub last : ℕ
  pub client : ℕ
  pub ports : ℕ
  pub packets : List Packet

abbrev pub peer_number : Peer → ℕ
peer_number p = p.addr * 2 ^ 16 + p.port

abbrev pub vlan_number : Option ℕ → ℕ
vlan_number None = 0
vlan_number (Some v) = v + 1

-- peers of 48 bits without order, and their VLAN
abbrev pub ports_number : Option ℕ → Peer → Peer → ℕ
ports_number vlan a b = (vlan_number vlan * 2 ^ 48 + min (peer_number a) (peer_number b)) * 2 ^ 48 + max (peer_number a) (peer_number b)

abbrev pub is_farewell : Member → Bool
is_farewell m = m.from_client && (has_flag m.flags fin_flag || has_flag m.flags rst_flag)

-- the client's first FIN or reset
abbrev pub farewell_in : List Member → Option ℕ
farewell_in members = option_map (λ m. m.index) (find is_farewell (drop 1 members))

abbrev pub last_in : ℕ → List Member → ℕ
last_in opening members = unwrap_or (option_map (λ m. m.index) (slice_get members (length members - 1))) opening

-- the records that bring what was recorded, if instants are numbers of records
abbrev pub bringers_in : RecordedConnection → Bringers
bringers_in r = record { up = arrivals r.up.line; down = arrivals r.down.line }

-- The script of a connection; `numbered` is what is recorded of it if instants are numbers of records. It had ended by its client's first FIN or reset,
-- or by what ended the server's line.
abbrev pub script_of : Manners → List (Option ℕ) → Conn → RecordedConnection → ScriptView
script_of manners recorded conn numbered = record {
  opening = conn.opening;
  farewell = farewell_in conn.members;
  ended = earlier (farewell_in conn.members) (end_instant numbered.down.line.end);
  last = last_in conn.opening conn.members;
  client = conn.client.addr;
  ports = ports_number conn.vlan conn.client conn.server;
  packets = packets_of manners recorded (bringers_in numbered) conn.members;
}

abbrev pub scripts_of : Manners → List (Option ℕ) → List Conn → List RecordedConnection → List ScriptView
scripts_of manners recorded [] rs = []
scripts_of manners recorded (x ∷ xs) [] = []
scripts_of manners recorded (x ∷ xs) (r ∷ rs) = script_of manners recorded x r ∷ scripts_of manners recorded xs rs

-- ---- hearings

-- what a rehearsal delivers of a connection: when each byte comes, whether it was refused, when the server's line ended, when a close or a reset came
pub record HearingView : Type 0 where
  pub up : List ℕ
  pub down : List ℕ
  pub refused : Bool
  pub told : Option ℕ
  pub closed : Option ℕ

abbrev pub closing_instant : End → Option ℕ
closing_instant live = None
closing_instant (fin at) = None
closing_instant (close at) = Some at
closing_instant (reset at) = Some at

abbrev pub hearing_of : DeliveredConnection → HearingView
hearing_of d = record {
  up = arrivals d.up;
  down = arrivals d.down;
  refused = d.refused;
  told = end_instant d.down.end;
  closed = earlier (closing_instant d.up.end) (closing_instant d.down.end);
}
