-- What holds of every table of a capture.
use Rattle.std.specs.Prelude.{◌≡◌, ◌≤◌, ℕ, ◌+◌, not, List, [], ◌∷◌, length, slice_get, slice_range, IsSomeAnd}
use Rattle.std.specs.List.{AllByRecursion}
use Rattle.pcap_records.specs.Reading.{Packet}
use Rattle.pcap_records.specs.CaptureView.{CaptureView, IsSoundCapture}
use Rattle.conn_table.specs.SeenCapture.{seen_packets}
use Rattle.conn_table.specs.IndexedSegments.{TimedSegment, IndexedSegment, same_peer, indexed_segments}
use Rattle.conn_table.specs.Connections.{Connection, connections}
use Rattle.conn_table.specs.KeptSegments.{payload_start}
use Rattle.conn_table.specs.Partials.{segments_between}
use Rattle.conn_table.specs.Tables.{table_in}
use Rattle.conn_table.specs.declared.conns.Member.{Member}
use Rattle.conn_table.specs.declared.conns.Conn.{Conn}

-- a segment's payload lies in the file at the place that is kept
pub record IsPlaced (c : CaptureView) (s : IndexedSegment) : Type 0 where
  pub within : payload_start c s.index + length s.timed.fields.payload ≤ length c.bytes
  pub bytes : slice_range c.bytes (payload_start c s.index) (payload_start c s.index + length s.timed.fields.payload)
      ≡ s.timed.fields.payload

abbrev pub PayloadsArePlaced : Type 0
PayloadsArePlaced =
    (c : CaptureView) (from to carry : ℕ) → IsSoundCapture c.ticks c.bytes c.records → from ≤ to → to ≤ length c.records
    → AllByRecursion (IsPlaced c) (segments_between c from to carry)

-- the numbers of members' records rise, from n on
abbrev pub MembersRise : ℕ → List Member → Type 0
MembersRise n [] = Unit {0}
MembersRise n (m ∷ ms) = (n ≤ m.index) × MembersRise (m.index + 1) ms

-- the members of a connection stand in the order of the file, its beginning first, and their payloads lie in the file
pub record IsSoundConn (bytes : List ℕ) (x : Conn) : Type 0 where
  pub first : IsSomeAnd (slice_get x.members 0) (λ m. m.index ≡ x.opening)
  pub rising : MembersRise x.opening x.members
  pub placed : AllByRecursion (λ (m : Member). m.start + m.len ≤ length bytes) x.members

abbrev pub ConnsAreSound : Type 0
ConnsAreSound =
    (c : CaptureView) (from to carry : ℕ) → IsSoundCapture c.ticks c.bytes c.records → from ≤ to → to ≤ length c.records
    → AllByRecursion (IsSoundConn c.bytes) (table_in c from to carry).conns

-- the segment comes from exactly one of the beginning's peers
abbrev pub HasSide : Connection → TimedSegment → Type 0
HasSide c m = same_peer m.fields.from c.opening.fields.to ≡ not (same_peer m.fields.from c.opening.fields.from)

-- the peers of the beginning differ, and each later segment comes from one of them
pub record HasSides (c : Connection) : Type 0 where
  pub opening : HasSide c c.opening
  pub later : AllByRecursion (HasSide c) c.later

abbrev pub MembersHaveSides : Type 0
MembersHaveSides =
    (n carry : ℕ) (packets : List Packet) → AllByRecursion HasSides (connections (indexed_segments n (seen_packets carry packets)))
