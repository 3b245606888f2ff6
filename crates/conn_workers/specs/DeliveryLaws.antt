-- What holds of deliveries: places, what they do not depend on, the proxy that is met, and what they are made of.
use Rattle.std.specs.Prelude.{◌≡◌, ◌≢◌, ℕ, ◌+◌, ◌*◌, List, length, map, Option, Some, slice_get, take}
use Rattle.std.specs.List.{AllByRecursion}
use Rattle.std.specs.Option.{MatchOption}
use Rattle.pcap_records.specs.CaptureView.{CaptureView, contents_of}
use Rattle.conn_table.specs.SeenCapture.{SeenCapture, seen_capture}
use Rattle.conn_table.specs.ClassCounts.{counts_of}
use Rattle.conn_table.specs.Connections.{Connection, unopened_count}
use Rattle.conn_table.specs.IndexedConnections.{without_indices}
use Rattle.conn_table.specs.IndexedSegments.{indexed_segments}
use Rattle.frame_headers.specs.declared.peers.Peer.{Peer}
use Rattle.reassembly.specs.Positions.{members_of, server_of}
use Rattle.toxic_defs.specs.DeliveredLines.{MetProxy, DeliveredConnection, delivered_connection}
use Rattle.scenarios.specs.ProxyLaws.{IsFirstFor}
use Rattle.scenarios.specs.declared.proxies.Proxy.{Proxy}
use Rattle.conn_workers.specs.declared.deliveries.Delivery.{Delivery}
use Rattle.conn_workers.specs.Recordings.{met_proxy, contribution_of, connections_of, delivery, delivery_of, deliveries, whole_table, whole_connections, recordings_of, recorded_row, recorded_lines, contribution_by}
use Rattle.reassembly.specs.RecordedLines.{Line, RecordedConnection, recorded_connection}
use Rattle.reassembly.specs.LineLaws.{IsNotBefore}
use Rattle.toxic_defs.specs.Laws.{IsBeforeHorizon, DelaysFirst, values_of}

-- ---- where each delivery stands, what it does not depend on, and which proxy a connection meets

pub record Rehearsed : Type 0 where
  pub seen : SeenCapture
  pub scenarios : List (List Proxy)

-- c has this number, and scenario s has these proxies
pub record Has (r : Rehearsed) (number s : ℕ) (c : Connection) (proxies : List Proxy) : Type 0 where
  pub connection : slice_get (connections_of r.seen) number ≡ Some c
  pub scenario : slice_get r.scenarios s ≡ Some proxies

-- ---- places

abbrev pub RowsAreWhole : Type 0
RowsAreWhole =
    (ticks seed : ℕ) (r : Rehearsed)
    → length (deliveries ticks seed (connections_of r.seen) r.scenarios)
    ≡ length r.scenarios * length (connections_of r.seen)

-- of C connections, the delivery at place s * C + number
abbrev pub delivery_at : ℕ → ℕ → Rehearsed → ℕ → ℕ → Option Delivery
delivery_at ticks seed r number s =
    slice_get (deliveries ticks seed (connections_of r.seen) r.scenarios) (s * length (connections_of r.seen) + number)

-- the delivery there has both numbers and that connection's contribution
abbrev pub DeliveriesArePlaced : Type 0
DeliveriesArePlaced =
    (ticks seed number s : ℕ) (r : Rehearsed) (c : Connection) (proxies : List Proxy) → Has r number s c proxies
    → delivery_at ticks seed r number s ≡ Some (delivery s number (contribution_of ticks seed (s, proxies) c))

-- ---- isolation

-- If connections of two captures have one number and the same members, and meet the same proxy or none, what they contribute is the same.
abbrev pub ContributionsAreIsolated : Type 0
ContributionsAreIsolated =
    (ticks seed number s : ℕ) (first second : Rehearsed) (x y : Connection) (a b : List Proxy)
    → Has first number s x a → Has second number s y b
    → members_of x ≡ members_of y → met_proxy (server_of x) a ≡ met_proxy (server_of y) b
    → (contribution_of ticks seed (s, a) x ≡ contribution_of ticks seed (s, b) y)
    × (delivery_at ticks seed first number s ≡ delivery_at ticks seed second number s)

-- ---- the proxy that is met

pub record IsFirstMet (server : Peer) (proxies : List Proxy) (met : MetProxy) : Type 0 where
  pub first : IsFirstFor server proxies met.number
  pub enabled : met.enabled ≡ first.proxy.enabled
  pub up : met.up ≡ first.proxy.up
  pub down : met.down ≡ first.proxy.down

abbrev pub FirstProxyIsMet : Type 0
FirstProxyIsMet =
    (server : Peer) (proxies : List Proxy)
    → MatchOption (met_proxy server proxies)
    (AllByRecursion (λ p. p.upstream ≢ server) proxies) (IsFirstMet server proxies)

-- ---- what recordings give

-- a capture's table shows what is seen of it: its connections, in order of number, and the counts; and there is a recording for each connection
pub record IsWhole (c : CaptureView) : Type 0 where
  pub connections : map without_indices (whole_connections c) ≡ connections_of (seen_capture (contents_of c))
  pub conns : length (whole_table c).conns ≡ length (connections_of (seen_capture (contents_of c)))
  pub recordings : length (recordings_of c) ≡ length (whole_table c).conns
  pub unopened : (whole_table c).unopened ≡ unopened_count (indexed_segments 0 (seen_capture (contents_of c)).packets)
  pub counts : (whole_table c).counts ≡ counts_of (seen_capture (contents_of c)).packets

abbrev pub TablesAreWhole : Type 0
TablesAreWhole = (c : CaptureView) → IsWhole c

abbrev pub RowsAreContributed : Type 0
RowsAreContributed =
    (seed : ℕ) (c : CaptureView) (s : ℕ × List Proxy)
    → recorded_row seed s (recordings_of c)
    ≡ map (delivery_of c.ticks seed s) (connections_of (seen_capture (contents_of c)))

abbrev pub LinesAreContributed : Type 0
LinesAreContributed =
    (seed : ℕ) (c : CaptureView) (s : ℕ × List Proxy)
    → recorded_lines seed s (recordings_of c)
    ≡ map (λ p. p.line) (map (contribution_of c.ticks seed s) (connections_of (seen_capture (contents_of c))))

-- ---- what is delivered of each connection of a capture is made of what was recorded of it

-- The bytes of a delivered line are the first that were recorded, none earlier. No end is before the opening, and all is before the horizon.
pub record IsDeliveredOf (ticks opened : ℕ) (recorded delivered : Line) : Type 0 where
  pub first : values_of delivered.bytes ≡ take (length delivered.bytes) (values_of recorded.bytes)
  pub delayed : DelaysFirst delivered.bytes recorded.bytes
  pub ends : IsNotBefore opened delivered.end
  pub before_horizon : IsBeforeHorizon ticks delivered

pub record IsMadeOf (ticks : ℕ) (r : RecordedConnection) (d : DeliveredConnection) : Type 0 where
  pub up : IsDeliveredOf ticks r.opened r.up.line d.up
  pub down : IsDeliveredOf ticks r.opened r.down.line d.down

-- ---- deliveries

-- the connections of a capture's table, in order of number
abbrev pub table_connections : CaptureView → List Connection
table_connections c = connections_of (seen_capture (contents_of c))

abbrev pub delivered_of : ℕ → ℕ → ℕ × List Proxy → Connection → DeliveredConnection
delivered_of ticks seed (number, proxies) c =
    delivered_connection ticks seed number c.number (met_proxy (server_of c) proxies) (recorded_connection c)

-- the delivery of a connection; what is delivered is made of what was recorded
pub record IsOfRecorded (c : CaptureView) (seed : ℕ) (s : ℕ × List Proxy) (d : Delivery) : Type 0 where
  pub connection : Connection
  pub numbered : slice_get (table_connections c) d.conn ≡ Some connection
  pub told : d ≡ delivery s.0 d.conn (contribution_by c.ticks connection (recorded_connection connection) (delivered_of c.ticks seed s connection))
  pub made : IsMadeOf c.ticks (recorded_connection connection) (delivered_of c.ticks seed s connection)

pub record IsOfScenario (c : CaptureView) (seed : ℕ) (scenarios : List (List Proxy)) (d : Delivery) : Type 0 where
  pub proxies : List Proxy
  pub numbered : slice_get scenarios d.scenario ≡ Some proxies
  pub recorded : IsOfRecorded c seed (d.scenario, proxies) d
