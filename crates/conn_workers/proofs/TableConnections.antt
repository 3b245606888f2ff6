-- The connections of a capture's table, and what table and recordings show of a capture.
use Rattle.std.proofs.Common.{◌≡◌, ◌<◌, ◌≤◌, ℕ, suc, ◌-◌, List, [], ◌∷◌, map, length, get_or, Option, Some, None, refl, ap, ◌∙◌, arith, sym}
use Rattle.std.specs.List.{AllByRecursion, enumerate_from, filter_map, cons_option}
use Rattle.std.proofs.lemmas.List.{length-map, take_all, get_or-map, get_or_default}
use Rattle.std.proofs.lemmas.List.Sums.{count_by-le-length, length-filter}
use Rattle.std.proofs.lemmas.List.FromFn.{length-enumerate_from}
use Rattle.lists.proofs.Lists.{all_at}
use Rattle.pcap_records.specs.Reading.{Packet}
use Rattle.pcap_records.specs.CaptureView.{CaptureView, contents_of, packet_of}
use Rattle.conn_table.specs.declared.conns.Conn.{Conn}
use Rattle.conn_table.specs.SeenCapture.{SeenPacket, seen_packets, seen_capture}
use Rattle.conn_table.specs.IndexedSegments.{IndexedSegment, indexed_segment, indexed_segments}
use Rattle.conn_table.specs.Connections.{connections, beginnings, begins_in, Connection, unopened_count}
use Rattle.conn_table.specs.IndexedConnections.{indexed_connections, indexed_connection_of, without_indices, IndexedConnectionsAgree}
use Rattle.conn_table.specs.Partials.{packets_between, segments_between}
use Rattle.conn_table.specs.Tables.{table_in, conn_in}
use Rattle.conn_table.proofs.RangeSteps.{length-packets_between, length-seen_packets}
use Rattle.reassembly.specs.RecordedView.{IsConnOf, IsConnectionOf, ConnectionsAreOfCapture, ConnsAreOfCapture}
use Rattle.conn_workers.specs.Recordings.{connections_of, whole_table, whole_connections, recording_in, recordings_of}
use Rattle.std.proofs.lemmas.Simd.{map-map}
use Rattle.conn_table.specs.ClassCounts.{counts_of}
use Rattle.conn_workers.specs.RowShares.{seen_of_recording, seen_of_connection}

-- ---- the connections of a capture's table

pub conns_are : (c : CaptureView) → (whole_table c).conns ≡ map (conn_in c) (whole_connections c)
unfolding table_in
conns_are c = refl

-- ---- against the definition

pub all_packets : (c : CaptureView) → packets_between c 0 (length c.records) 0 ≡ seen_packets 0 (contents_of c).packets
all_packets c =
    let packets : List Packet = (contents_of c).packets in
    let len : length packets ≡ length c.records = length-map c.records (packet_of c.bytes) in
    let whole : length c.records - 0 ≡ length c.records = omega arith in
    ap (seen_packets 0) (rw whole (take_all (length c.records) packets (omega (arith, len))))

pub all_segments : (c : CaptureView) → segments_between c 0 (length c.records) 0 ≡ indexed_segments 0 (seen_packets 0 (contents_of c).packets)
all_segments c = ap (indexed_segments 0) (all_packets c)

pub connections_are : IndexedConnectionsAgree → (c : CaptureView) → map without_indices (whole_connections c) ≡ connections_of (seen_capture (contents_of c))
connections_are agree c = agree (segments_between c 0 (length c.records) 0) ∙ ap connections (all_segments c)

-- ---- no more than records

fewer_mapped : {X Y : Type 0} (h : X → Option Y) (xs : List X) → length (filter_map h xs) ≤ length xs
fewer_mapped h [] = omega arith
fewer_mapped h (x ∷ xs) =
    let rest : length (filter_map h xs) ≤ length xs = fewer_mapped h xs in
    elim (h x) as (λ o. length (cons_option o (filter_map h xs)) ≤ suc (length xs)) [ Some y ↦ omega (arith, rest) | None ↦ omega (arith, rest) ]

few_segments : (packets : List SeenPacket) → length (indexed_segments 0 packets) ≤ length packets
unfolding indexed_segments
few_segments packets = omega (arith, fewer_mapped indexed_segment (enumerate_from 0 packets), length-enumerate_from 0 packets)

few_beginnings : (segs : List IndexedSegment) → length (indexed_connections segs) ≤ length segs
unfolding indexed_connections beginnings
few_beginnings segs =
    omega (
      arith,
      length-map (enumerate_from 0 (beginnings segs)) (indexed_connection_of segs),
      length-enumerate_from 0 (beginnings segs),
      length-filter (begins_in segs) segs,
      count_by-le-length (begins_in segs) segs,
    )

pub few_connections : (c : CaptureView) → length (whole_connections c) ≤ length c.records
few_connections c =
    let packets : length (contents_of c).packets ≡ length c.records = length-map c.records (packet_of c.bytes) in
    omega (
      arith,
      few_beginnings (segments_between c 0 (length c.records) 0),
      few_segments (packets_between c 0 (length c.records) 0),
      length-packets_between c 0 (length c.records) 0 (omega arith) (omega (arith, packets)),
    )

pub few_conns : (c : CaptureView) → length (whole_table c).conns ≤ length c.records
few_conns c = omega (arith, ap length (conns_are c), length-map (whole_connections c) (conn_in c), few_connections c)

-- ---- a connection of the table

-- the element at a place, whatever stands past the last
pub record StandsAt {A : Type 0} (xs : List A) (i : ℕ) : Type 0 where
  pub item : A
  pub read : (d : A) → get_or xs i d ≡ item

stands_at : {A : Type 0} (xs : List A) (i : ℕ) → i < length xs → StandsAt xs i
stands_at [] i within = absurd (omega (arith, within))
stands_at (x ∷ xs) i within = record { item = get_or (x ∷ xs) i x; read = λ d. get_or_default (x ∷ xs) i d x within }

module _ (c : CaptureView) (conns : List Conn) (shown : conns ≡ (whole_table c).conns) (i : ℕ) (within : i < length conns) where
  mapped : conns ≡ map (conn_in c) (whole_connections c)
  mapped = shown ∙ conns_are c

  pub in_connections : i < length (whole_connections c)
  in_connections = omega (arith, within, ap length mapped, length-map (whole_connections c) (conn_in c))

  pub here : StandsAt (whole_connections c) i
  here = stands_at (whole_connections c) i in_connections

  pub conn_here : (conn : Conn) → conn ≡ get_or conns i conn → conn ≡ conn_in c here.item
  conn_here conn read =
      read ∙ ap (λ cs. get_or cs i conn) mapped ∙ get_or-map (conn_in c) (whole_connections c) i here.item conn in_connections ∙ ap (conn_in c) (here.read here.item)

  pub is_of_capture : ConnsAreOfCapture → (conn : Conn) → conn ≡ get_or conns i conn → IsConnOf c conn
  is_of_capture are conn read =
      let all : AllByRecursion (IsConnOf c) conns = rw mapped (are c 0 (length c.records) 0) in
      rw read (all_at (IsConnOf c) conns i conn all within)

  pub connection_of_capture : ConnectionsAreOfCapture → IsConnectionOf c here.item
  connection_of_capture are =
      rw (← here.read here.item) (all_at (IsConnectionOf c) (whole_connections c) i here.item (are c 0 (length c.records) 0) in_connections)

-- ---- what a capture's table and recordings show, against what is seen of the capture

pub counts_are : (c : CaptureView) → (whole_table c).counts ≡ counts_of (seen_packets 0 (contents_of c).packets)
unfolding table_in
counts_are c = ap counts_of (all_packets c)

pub unopened_is : (c : CaptureView) → (whole_table c).unopened ≡ unopened_count (indexed_segments 0 (seen_packets 0 (contents_of c).packets))
unfolding table_in
unopened_is c = ap unopened_count (all_segments c)

pub conns_are_seen : IndexedConnectionsAgree → (c : CaptureView) → map seen_of_recording (recordings_of c) ≡ map seen_of_connection (connections_of (seen_capture (contents_of c)))
conns_are_seen agree c =
    map-map seen_of_recording (recording_in c) (whole_connections c) ∙ sym (map-map seen_of_connection without_indices (whole_connections c))
    ∙ ap (λ (cs : List Connection). map seen_of_connection cs) (connections_are agree c)

pub packets_are_all : (c : CaptureView) → length c.records ≡ length (seen_capture (contents_of c)).packets
packets_are_all c = sym (length-seen_packets 0 (contents_of c).packets ∙ length-map c.records (packet_of c.bytes))

-- the table has a connection for each connection of the capture
pub conns_are_all : IndexedConnectionsAgree → (c : CaptureView) → length (whole_table c).conns ≡ length (connections_of (seen_capture (contents_of c)))
conns_are_all agree c =
    ap length (conns_are c) ∙ length-map (whole_connections c) (conn_in c) ∙ sym (length-map (whole_connections c) without_indices) ∙ ap length (connections_are agree c)
