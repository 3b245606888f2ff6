-- The table of a capture's connections.
use Rattle.std.specs.Prelude.{◌≡◌, ◌≤◌, ℕ, List, ◌∷◌, map, length}
use Rattle.pcap_records.specs.CaptureView.{CaptureView}
use Rattle.frame_headers.specs.declared.peers.Peer.{Peer}
use Rattle.conn_table.specs.IndexedSegments.{IndexedSegment, same_peer}
use Rattle.conn_table.specs.Connections.{unopened_count}
use Rattle.conn_table.specs.IndexedConnections.{IndexedConnection, indexed_connections}
use Rattle.conn_table.specs.ClassCounts.{counts_of}
use Rattle.conn_table.specs.KeptSegments.{payload_start}
use Rattle.conn_table.specs.Partials.{PartialView, partial_in, packets_between, segments_between}
use Rattle.conn_table.specs.Growing.{grown_of}
use Rattle.conn_table.specs.declared.class_counts.Counts.{Counts}
use Rattle.conn_table.specs.declared.conns.Member.{Member}
use Rattle.conn_table.specs.declared.conns.Conn.{Conn}

-- the connections in order of number, the number of segments that belong to none, and the counts of packets by class
pub record TableView : Type 0 where
  pub conns : List Conn
  pub unopened : ℕ
  pub counts : Counts

-- ---- the table of a capture's records

-- what a table shows of a segment, in a connection of this client
abbrev pub member_in : CaptureView → Peer → IndexedSegment → Member
member_in c client s = record {
  at = s.timed.at;
  index = s.index;
  seq = s.timed.fields.seq;
  start = payload_start c s.index;
  len = length s.timed.fields.payload;
  flags = s.timed.fields.flags;
  from_client = same_peer s.timed.fields.from client;
}

abbrev pub conn_in : CaptureView → IndexedConnection → Conn
conn_in c x = record {
  number = x.number;
  opening = x.opening.index;
  opened = x.opening.timed.at;
  vlan = x.opening.timed.fields.vlan;
  client = x.opening.timed.fields.from;
  server = x.opening.timed.fields.to;
  members = map (member_in c x.opening.timed.fields.from) (x.opening ∷ x.later);
}

-- the table of a range of records; `carry` is the greatest stamp before it
unfoldable pub table_in : CaptureView → ℕ → ℕ → ℕ → TableView
table_in c from to carry = record {
  conns = map (conn_in c) (indexed_connections (segments_between c from to carry));
  unopened = unopened_count (segments_between c from to carry);
  counts = counts_of (packets_between c from to carry);
}

-- ---- the table of a partial

unfoldable pub finished : PartialView → TableView
finished p = record { conns = (grown_of p.segments).conns; unopened = (grown_of p.segments).unopened; counts = p.counts }

-- the table of a range's partial is that of the range: its connections are those of the filter
abbrev pub TablesAgree : Type 0
TablesAgree =
    (c : CaptureView) (from to carry : ℕ) → from ≤ to → to ≤ length c.records
    → finished (partial_in c from to carry) ≡ table_in c from to carry
