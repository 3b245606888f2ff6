-- What contracts see of a `Recorded`, and which connections are of a capture.
use Rattle.std.specs.Prelude.{◌≡◌, ◌<◌, ℕ, List, [], ◌∷◌, length, find, Option, Some, None, option_map, true, false, map}
use Rattle.std.specs.List.{AllByRecursion}
use Rattle.pcap_records.specs.CaptureView.{CaptureView}
use Rattle.frame_headers.specs.Frame.{frame_class, segment, segment_fields}
use Rattle.conn_table.specs.IndexedSegments.{IndexedSegment}
use Rattle.conn_table.specs.Connections.{of_one_pair}
use Rattle.conn_table.specs.Partials.{segments_between}
use Rattle.conn_table.specs.IndexedConnections.{IndexedConnection, without_indices, indexed_connections}
use Rattle.reassembly.specs.Positions.{members_of}
use Rattle.reassembly.specs.LineLaws.{InstantsRise}
use Rattle.conn_table.specs.KeptSegments.{frame_at}
use Rattle.reassembly.specs.declared.recordings.Recorded.{Recorded}
use Rattle.conn_table.specs.Tables.{conn_in}
use Rattle.conn_table.specs.declared.conns.Member.{Member}
use Rattle.conn_table.specs.declared.conns.Conn.{Conn}
use Rattle.reassembly.specs.RecordedLines.{RecordedConnection, End, live, reset}
use Rattle.reassembly.specs.MemberSpans.{is_reset_member, is_server_answer, members_before_reset}
use Rattle.reassembly.specs.SideLines.{IsSideOf}

abbrev pub recorded_view : Recorded → RecordedConnection
recorded_view r = record {
  up = record { line = r.up.line; lost = r.up_lost };
  down = record { line = r.down.line; lost = r.down_lost };
  client_base = r.client_base;
  server_base = r.server_base;
  opened = r.opened;
  mac_client = r.mac_client;
  mac_server = r.mac_server;
}

-- a segment stands in the record of its number
pub record IsRecorded (c : CaptureView) (s : IndexedSegment) : Type 0 where
  pub within : s.index < length c.records
  pub class : frame_class (frame_at c s.index) ≡ segment
  pub fields : s.timed.fields ≡ segment_fields (frame_at c s.index)

-- the segments are recorded in the capture, go between the peers of the first, and have instants that do not fall
pub record IsConnectionOf (c : CaptureView) (x : IndexedConnection) : Type 0 where
  pub recorded : AllByRecursion (IsRecorded c) (x.opening ∷ x.later)
  pub paired : AllByRecursion (λ s. of_one_pair x.opening s ≡ true) x.later
  pub rising : InstantsRise 0 (members_of (without_indices x))

-- what a table shows of a connection of the capture
pub record IsConnOf (c : CaptureView) (conn : Conn) : Type 0 where
  pub connection : IndexedConnection
  pub of_capture : IsConnectionOf c connection
  pub shown : conn ≡ conn_in c connection

-- the connections of the segments in a range of records are of the capture
abbrev pub ConnectionsAreOfCapture : Type 0
ConnectionsAreOfCapture = (c : CaptureView) (from to carry : ℕ) → AllByRecursion (IsConnectionOf c) (indexed_connections (segments_between c from to carry))

abbrev pub ConnsAreOfCapture : Type 0
ConnsAreOfCapture = (c : CaptureView) (from to carry : ℕ) → AllByRecursion (IsConnOf c) (map (conn_in c) (indexed_connections (segments_between c from to carry)))

-- ---- by members

abbrev pub first_seq : List Member → ℕ
first_seq [] = 0
first_seq (m ∷ members) = m.seq

abbrev pub reset_end : Option ℕ → End
reset_end None = live
reset_end (Some at) = reset at

abbrev pub other_end : List Member → End
other_end members = reset_end (option_map (λ m. m.at) (find is_reset_member members))

-- `r` holds the sides that the members make
pub record IsOfMembers (file : List ℕ) (members : List Member) (r : RecordedConnection) : Type 0 where
  pub client : r.client_base ≡ first_seq members
  pub server : r.server_base ≡ option_map (λ m. m.seq) (find is_server_answer (members_before_reset members))
  pub up : IsSideOf (Some r.client_base) true file (members_before_reset members) (other_end members) r.up
  pub down : IsSideOf r.server_base false file (members_before_reset members) (other_end members) r.down
