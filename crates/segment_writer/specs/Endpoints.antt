-- The endpoints of a connection: what each of its segments says of it, whatever is delivered.
use Rattle.std.specs.Prelude.{◌≡◌, ℕ, false, Option, unwrap_or}
use Rattle.pcap_records.specs.Instants.{ticks_of}
use Rattle.conn_table.specs.declared.conns.Conn.{Conn}
use Rattle.reassembly.specs.RecordedLines.{RecordedConnection}
use Rattle.toxic_defs.specs.DeliveredLines.{DeliveredConnection}
use Rattle.segment_writer.specs.WrittenSegments.{Host, WrittenConnection}
use Rattle.segment_writer.specs.declared.senders.Sender.{Sender}
use Rattle.segment_writer.specs.declared.senders.Turn.TheVariants.{Opening}

pub record EndpointsView : Type 0 where
  pub ticks : ℕ
  pub number : ℕ
  pub opened : ℕ
  pub vlan : Option ℕ
  pub client : Host
  pub server : Host
  pub client_base : ℕ
  pub server_base : ℕ

-- a server without a number of its own counts from 0
abbrev pub endpoints_of : ℕ → Conn → RecordedConnection → EndpointsView
endpoints_of ticks conn r = record {
  ticks = ticks;
  number = conn.number;
  opened = r.opened;
  vlan = conn.vlan;
  client = record { mac = r.mac_client; peer = conn.client };
  server = record { mac = r.mac_server; peer = conn.server };
  client_base = r.client_base;
  server_base = unwrap_or r.server_base 0;
}

abbrev pub connection_between : EndpointsView → DeliveredConnection → WrittenConnection
connection_between e d = record {
  number = e.number;
  opened = e.opened;
  vlan = e.vlan;
  refused = d.refused;
  client = record { host = e.client; base = e.client_base; line = d.up };
  server = record { host = e.server; base = e.server_base; line = d.down };
}

-- ---- by the client that sends in the opening

pub record IsClient (s : Sender) : Type 0 where
  pub side : s.is_server ≡ false
  pub turn : s.turn ≡ Opening

abbrev pub endpoints_by : Sender → ℕ → EndpointsView
endpoints_by s opened = record {
  ticks = ticks_of s.unit;
  number = s.conn;
  opened = opened;
  vlan = s.vlan;
  client = record { mac = s.mac_from; peer = s.from };
  server = record { mac = s.mac_to; peer = s.to };
  client_base = s.base;
  server_base = s.peer_base;
}
