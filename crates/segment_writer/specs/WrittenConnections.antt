-- A connection as it is written: of its number, its two peers, what was recorded and what is delivered.
use Rattle.std.specs.Prelude.{ℕ, Option, unwrap_or}
use Rattle.frame_headers.specs.declared.peers.Peer.{Peer}
use Rattle.reassembly.specs.RecordedLines.{RecordedConnection}
use Rattle.toxic_defs.specs.DeliveredLines.{DeliveredConnection}
use Rattle.segment_writer.specs.WrittenSegments.{WrittenConnection}

-- a server without a number of its own counts from 0
abbrev pub written_connection : ℕ → Option ℕ → Peer → Peer → RecordedConnection → DeliveredConnection → WrittenConnection
written_connection number vlan client server r d = record {
  number = number;
  opened = r.opened;
  vlan = vlan;
  refused = d.refused;
  client = record { host = record { mac = r.mac_client; peer = client }; base = r.client_base; line = d.up };
  server = record { host = record { mac = r.mac_server; peer = server }; base = unwrap_or r.server_base 0; line = d.down };
}
