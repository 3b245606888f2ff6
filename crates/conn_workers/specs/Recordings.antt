-- What is recorded of each connection of a capture, which proxy it meets, and what it contributes to each scenario.
use Rattle.std.specs.Prelude.{ℕ, List, find, Option, option_map, map, length, ◌≡◌}
use Rattle.std.specs.List.{enumerate_from, flat_map}
use Rattle.frame_headers.specs.declared.peers.Peer.{Peer}
use Rattle.toxic_defs.specs.DeliveredLines.{MetProxy, DeliveredConnection, delivered_connection}
use Rattle.scenarios.specs.Populate.{leads_to}
use Rattle.scenarios.specs.declared.proxies.Proxy.{Proxy}
use Rattle.segment_writer.specs.declared.framed.Framed.{Framed}
use Rattle.conn_table.specs.Connections.{Connection, connections}
use Rattle.reassembly.specs.Positions.{client_of, server_of, vlan_of}
use Rattle.reassembly.specs.RecordedLines.{RecordedConnection, recorded_connection}
use Rattle.segment_writer.specs.WrittenSegments.{written_segments}
use Rattle.segment_writer.specs.WrittenConnections.{written_connection}
use Rattle.report.specs.ReportText.{connection_text}
use Rattle.conn_table.specs.SeenCapture.{SeenCapture}
use Rattle.conn_table.specs.IndexedSegments.{indexed_segments}
use Rattle.conn_workers.specs.declared.deliveries.Delivery.{Delivery}
use Rattle.pcap_records.specs.CaptureView.{CaptureView}
use Rattle.conn_table.specs.IndexedConnections.{IndexedConnection, indexed_connections, without_indices}
use Rattle.conn_table.specs.Partials.{segments_between}
use Rattle.conn_table.specs.Tables.{TableView, table_in, conn_in}
use Rattle.conn_table.specs.declared.conns.Conn.{Conn}
use Rattle.reassembly.specs.LineLaws.{IsLine}
use Rattle.reassembly.specs.RecordedView.{recorded_view}
use Rattle.reassembly.specs.declared.recordings.Recorded.{Recorded}
use Rattle.segment_writer.specs.Endpoints.{EndpointsView, endpoints_of}

-- ---- the proxy of a scenario that a connection meets

abbrev pub met_of : ℕ × Proxy → MetProxy
met_of (number, proxy) = record { number = number; enabled = proxy.enabled; up = proxy.up; down = proxy.down }

-- the first proxy that is for a server
abbrev pub met_proxy : Peer → List Proxy → Option MetProxy
met_proxy server proxies = option_map met_of (find (λ x. leads_to server x.1) (enumerate_from 0 proxies))

-- ---- what one connection contributes to a scenario: its written segments and its line of the report

pub record Contribution : Type 0 where
  pub segments : List Framed
  pub line : List ℕ

abbrev pub contribution_by : ℕ → Connection → RecordedConnection → DeliveredConnection → Contribution
contribution_by ticks c r d = record {
  segments = written_segments ticks (written_connection c.number (vlan_of c) (client_of c) (server_of c) r d);
  line = connection_text c.number (vlan_of c) (client_of c) (server_of c) r d;
}

-- it depends on these only
unfoldable pub contribution : ℕ → Connection → ℕ → ℕ → Option MetProxy → Contribution
contribution ticks c scenario seed met =
    contribution_by ticks c (recorded_connection c)
    (delivered_connection ticks seed scenario c.number met (recorded_connection c))

abbrev pub contribution_of : ℕ → ℕ → ℕ × List Proxy → Connection → Contribution
contribution_of ticks seed (number, proxies) c = contribution ticks c number seed (met_proxy (server_of c) proxies)

-- ---- what each connection contributes to each scenario, scenario by scenario

abbrev pub scenario_limit : ℕ
scenario_limit = 256

abbrev pub connections_of : SeenCapture → List Connection
connections_of c = connections (indexed_segments 0 c.packets)

abbrev pub delivery : ℕ → ℕ → Contribution → Delivery
delivery scenario conn p = record { scenario = scenario; conn = conn; segments = p.segments; line = p.line }

abbrev pub delivery_of : ℕ → ℕ → ℕ × List Proxy → Connection → Delivery
delivery_of ticks seed (number, proxies) c = delivery number c.number (contribution_of ticks seed (number, proxies) c)

-- a value for each of rs and each of cs, row by row
abbrev pub rows : {R C V : Type 0} → (R → C → V) → List R → List C → List V
rows f rs cs = flat_map (λ r. map (f r) cs) rs

unfoldable pub deliveries : ℕ → ℕ → List Connection → List (List Proxy) → List Delivery
deliveries ticks seed conns scenarios = rows (delivery_of ticks seed) (enumerate_from 0 scenarios) conns

-- ---- the table of all records of a capture

abbrev pub whole_table : CaptureView → TableView
whole_table c = table_in c 0 (length c.records) 0

abbrev pub whole_connections : CaptureView → List IndexedConnection
whole_connections c = indexed_connections (segments_between c 0 (length c.records) 0)

-- ---- for each connection: its entry in the table, what is recorded of it, and what it contributes to a scenario

pub record RecordingView : Type 0 where
  pub ticks : ℕ
  pub conn : Conn
  pub recorded : RecordedConnection

abbrev pub recording_in : CaptureView → IndexedConnection → RecordingView
recording_in c x = record { ticks = c.ticks; conn = conn_in c x; recorded = recorded_connection (without_indices x) }

abbrev pub recordings_of : CaptureView → List RecordingView
recordings_of c = map (recording_in c) (whole_connections c)

-- both lines keep the rule of lines (`IsLine`), in one unit, and the endpoints are this connection's
pub record IsRecording (conn : Conn) (r : Recorded) (e : EndpointsView) : Type 0 where
  pub up : IsLine r.up.line
  pub down : IsLine r.down.line
  pub one_unit : r.down.ticks ≡ r.up.ticks
  pub endpoints : e ≡ endpoints_of r.up.ticks conn (recorded_view r)

-- ---- what connections contribute to scenarios

-- what a connection contributes to the scenario of this number, if `d` is delivered of it
abbrev pub recorded_delivery_by : ℕ → RecordingView → DeliveredConnection → Delivery
recorded_delivery_by number r d = record {
  scenario = number;
  conn = r.conn.number;
  segments = written_segments r.ticks (written_connection r.conn.number r.conn.vlan r.conn.client r.conn.server r.recorded d);
  line = connection_text r.conn.number r.conn.vlan r.conn.client r.conn.server r.recorded d;
}

-- what is delivered of a connection in the scenario of this number, if it meets this proxy or none
abbrev pub delivered_by : ℕ → ℕ → Option MetProxy → RecordingView → DeliveredConnection
delivered_by seed number met r = delivered_connection r.ticks seed number r.conn.number met r.recorded

abbrev pub recorded_delivered : ℕ → ℕ × List Proxy → RecordingView → DeliveredConnection
recorded_delivered seed (number, proxies) r = delivered_by seed number (met_proxy r.conn.server proxies) r

abbrev pub recorded_delivery : ℕ → ℕ × List Proxy → RecordingView → Delivery
recorded_delivery seed (number, proxies) r = recorded_delivery_by number r (recorded_delivered seed (number, proxies) r)

-- what all connections contribute: first to scenario 0, then to scenario 1, and so on
unfoldable pub recorded_deliveries : ℕ → List RecordingView → List (List Proxy) → List Delivery
recorded_deliveries seed recordings scenarios =
    rows (recorded_delivery seed) (enumerate_from 0 scenarios) recordings

abbrev pub recorded_row : ℕ → ℕ × List Proxy → List RecordingView → List Delivery
recorded_row seed s recordings = map (recorded_delivery seed s) recordings

-- the lines of the scenario's report
abbrev pub recorded_lines : ℕ → ℕ × List Proxy → List RecordingView → List (List ℕ)
recorded_lines seed s recordings = map (λ r. (recorded_delivery seed s r).line) recordings
