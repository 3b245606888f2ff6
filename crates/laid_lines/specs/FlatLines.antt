-- Delivered lines, laid flat: of each scenario the connections in order of number, and of each of these the up line before the down line.
use Rattle.std.specs.Prelude.{ℕ, ◌+◌, ◌-◌, ◌*◌, ◌/◌, Bool, true, false, if◌then◌else◌, List, [], ◌∷◌, ◌++◌, length, Option, Some, None}
use Rattle.std.specs.List.{enumerate_from, flat_map}
use Rattle.pcap_records.specs.Instants.{instant, nanoseconds}
use Rattle.frame_headers.specs.declared.peers.Peer.{Peer}
use Rattle.conn_table.specs.SeenCapture.{SeenCapture}
use Rattle.conn_table.specs.Connections.{Connection}
use Rattle.reassembly.specs.Positions.{client_of, server_of, vlan_of}
use Rattle.reassembly.specs.RecordedLines.{LineByte, Line, End, live, fin, close, reset}
use Rattle.toxic_defs.specs.DeliveredLines.{DeliveredConnection}
use Rattle.toxic_defs.specs.Laws.{values_of}
use Rattle.scenarios.specs.declared.proxies.Proxy.{Proxy}
use Rattle.conn_workers.specs.Recordings.{connections_of, rows}
use Rattle.conn_workers.specs.DeliveryLaws.{delivered_of}
use Rattle.laid_lines.specs.declared.laid.ToxicapChunk.{ToxicapChunk}
use Rattle.laid_lines.specs.declared.laid.ToxicapDirection.{ToxicapDirection}
use Rattle.laid_lines.specs.declared.laid.ToxicapConnection.{ToxicapConnection}

pub record FlatLines : Type 0 where
  pub bytes : List ℕ
  pub chunks : List ToxicapChunk
  pub connections : List ToxicapConnection

-- ---- times

-- An instant in nanoseconds: a tick is a microsecond or a nanosecond. No instant is past the horizon, so 64 bits hold each.
abbrev pub nanoseconds_at : ℕ → ℕ → ℕ
nanoseconds_at ticks at = instant ticks at * (nanoseconds / ticks)

abbrev pub nanoseconds_since : ℕ → ℕ → ℕ → ℕ
nanoseconds_since ticks opened at = nanoseconds_at ticks at - nanoseconds_at ticks opened

-- ---- a line

-- a byte is its chunk's last if the next byte starts a chunk, or there is none
abbrev pub is_last_before : List LineByte → Bool
is_last_before [] = true
is_last_before (next ∷ bytes) = next.starts

abbrev pub chunk : ℕ → ℕ → ToxicapChunk
chunk end time = record { end = end; time = time }

-- the chunks of these bytes, after `count` others: where each ends, and when it came
unfoldable pub chunks_after : (ℕ → ℕ) → ℕ → List LineByte → List ToxicapChunk
chunks_after time count [] = []
chunks_after time count (b ∷ bytes) =
    if is_last_before bytes then chunk (count + 1) (time b.at) ∷ chunks_after time (count + 1) bytes else chunks_after time (count + 1) bytes

abbrev pub chunks_of : ℕ → ℕ → Line → List ToxicapChunk
chunks_of ticks opened line = chunks_after (nanoseconds_since ticks opened) 0 line.bytes

-- how a line ends, or that its connection is refused
abbrev pub end_code : Bool → End → ℕ
end_code true end = 4
end_code false live = 0
end_code false (fin at) = 1
end_code false (close at) = 2
end_code false (reset at) = 3

abbrev pub end_time : ℕ → ℕ → End → ℕ
end_time ticks opened live = 0
end_time ticks opened (fin at) = nanoseconds_since ticks opened at
end_time ticks opened (close at) = nanoseconds_since ticks opened at
end_time ticks opened (reset at) = nanoseconds_since ticks opened at

abbrev pub direction_of : ℕ → ℕ → Bool → Line → ToxicapDirection
direction_of ticks opened refused line = record {
  bytes = length line.bytes;
  chunks = length (chunks_of ticks opened line);
  end_time = end_time ticks opened line.end;
  end = end_code refused line.end;
}

-- ---- a connection, by what is delivered of it

abbrev pub vlan_number : Option ℕ → ℕ
vlan_number None = 0
vlan_number (Some number) = number

abbrev pub lines_of : ℕ → Option ℕ → Peer → Peer → ℕ → DeliveredConnection → FlatLines
lines_of ticks vlan client server opened d = record {
  bytes = values_of d.up.bytes ++ values_of d.down.bytes;
  chunks = chunks_of ticks opened d.up ++ chunks_of ticks opened d.down;
  connections = record {
    opened = nanoseconds_at ticks opened;
    up = direction_of ticks opened d.refused d.up;
    down = direction_of ticks opened d.refused d.down;
    client_address = client.addr;
    server_address = server.addr;
    client_port = client.port;
    server_port = server.port;
    vlan = vlan_number vlan;
  } ∷ [];
}

-- ---- a capture under scenarios

abbrev pub together : List FlatLines → FlatLines
together all = record { bytes = flat_map (λ l. l.bytes) all; chunks = flat_map (λ l. l.chunks) all; connections = flat_map (λ l. l.connections) all }

-- of a connection in a scenario with its number
abbrev pub lines_in : ℕ → ℕ → ℕ × List Proxy → Connection → FlatLines
lines_in ticks seed s c = lines_of ticks (vlan_of c) (client_of c) (server_of c) c.opening.at (delivered_of ticks seed s c)

unfoldable pub flat_lines : SeenCapture → List (List Proxy) → ℕ → FlatLines
flat_lines c scenarios seed = together (rows (lines_in c.ticks seed) (enumerate_from 0 scenarios) (connections_of c))
