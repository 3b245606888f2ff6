-- Connections with the numbers of their segments' records.
use Rattle.std.specs.Prelude.{◌≡◌, ℕ, List, map}
use Rattle.std.specs.List.{enumerate_from}
use Rattle.conn_table.specs.IndexedSegments.{IndexedSegment}
use Rattle.conn_table.specs.Connections.{Connection, beginnings, later_members, connections}

pub record IndexedConnection : Type 0 where
  pub number : ℕ
  pub opening : IndexedSegment
  pub later : List IndexedSegment

abbrev pub indexed_connection_of : List IndexedSegment → ℕ × IndexedSegment → IndexedConnection
indexed_connection_of segs (number, b) = record { number = number; opening = b; later = later_members segs b }

unfoldable pub indexed_connections : List IndexedSegment → List IndexedConnection
indexed_connections segs = map (indexed_connection_of segs) (enumerate_from 0 (beginnings segs))

abbrev pub without_indices : IndexedConnection → Connection
without_indices c = record { number = c.number; opening = c.opening.timed; later = map (λ s. s.timed) c.later }

-- without the numbers of records these are the connections
abbrev pub IndexedConnectionsAgree : Type 0
IndexedConnectionsAgree = (segs : List IndexedSegment) → map without_indices (indexed_connections segs) ≡ connections segs
