-- The segments of a capture's connections were recorded between their connection's opening and the horizon.
use Rattle.std.proofs.Common.{◌≤◌, ℕ, ◌+◌, ◌-◌, List, [], ◌∷◌, map, take, drop, slice_range, nat_lt, ◌&&◌, arith}
use Rattle.std.specs.List.{AllByRecursion}
use Rattle.std.proofs.Math.Nat.{le_trans, le_refl}
use Rattle.std.proofs.lemmas.List.Elements.{recursion_from_All}
use Rattle.pcap_records.specs.Reading.{Packet}
use Rattle.pcap_records.specs.CaptureView.{CaptureView, contents_of, stamps_between, packet_of, IsWithinFile, IsSoundCapture}
use Rattle.pcap_records.specs.Instants.{horizon}
use Rattle.lists.proofs.Lists.{all_weaker, all_map, all_take, all_drop, all_filter}
use Rattle.frame_headers.specs.HeaderLaws.{PayloadsAreInPlace}
use Rattle.conn_table.specs.IndexedSegments.{TimedSegment, IndexedSegment}
use Rattle.conn_table.specs.Connections.{begins_in, beginnings, beginning_of, is_at}
use Rattle.conn_table.specs.IndexedConnections.{IndexedConnection, indexed_connection_of, indexed_connections, without_indices, IndexedConnectionsAgree}
use Rattle.conn_table.specs.Partials.{segments_between}
use Rattle.reassembly.specs.Positions.{members_of}
use Rattle.reassembly.specs.LineLaws.{InstantsRise, IsBetween}
use Rattle.reassembly.specs.RecordedView.{IsConnectionOf}
use Rattle.reassembly.specs.ConnectionInstants.{IsInTime, ConnectionsAreInTime}
use Rattle.reassembly.proofs.Chunks.{greatest-le}
use Rattle.reassembly.proofs.ConnectionJoin.{shorts}
use Rattle.reassembly.proofs.MappedLists.{and_both, all_enumerated}
use Rattle.reassembly.proofs.OfCapture.{IsKnown, segments_known, connections_are_of_capture}

-- ---- none past a limit

abbrev IsUpTo : ℕ → IndexedSegment → Type 0
IsUpTo limit s = s.timed.at ≤ limit

stamps_up_to : (c : CaptureView) (from to : ℕ) → IsSoundCapture c.ticks c.bytes c.records → AllByRecursion (λ n. n ≤ horizon c.ticks) (map (λ p. p.stamp) (slice_range (contents_of c).packets from to))
stamps_up_to c from to sound =
    let ps : List Packet = (contents_of c).packets in
    let records : AllByRecursion (λ r. r.stamp ≤ horizon c.ticks) c.records =
    all_weaker (IsWithinFile c.ticks c.bytes) (λ r. r.stamp ≤ horizon c.ticks) (λ r is. is.stamped) c.records (recursion_from_All (IsWithinFile c.ticks c.bytes) c.records sound.within) in
    let packets : AllByRecursion (λ p. p.stamp ≤ horizon c.ticks) ps = all_map (λ p. p.stamp ≤ horizon c.ticks) (packet_of c.bytes) c.records records in
    all_map (λ n. n ≤ horizon c.ticks) (λ p. p.stamp) (slice_range ps from to) (all_take (λ p. p.stamp ≤ horizon c.ticks) (to - from) (drop from ps) (all_drop (λ p. p.stamp ≤ horizon c.ticks) from ps packets))

segments_up_to : (c : CaptureView) (from to carry : ℕ) → IsSoundCapture c.ticks c.bytes c.records → carry ≤ horizon c.ticks → AllByRecursion (IsUpTo (horizon c.ticks)) (segments_between c from to carry)
segments_up_to c from to carry sound first =
    let stamps : List ℕ = stamps_between c from to in
    let limit : ℕ = horizon c.ticks in
    all_weaker (IsKnown c from carry stamps) (IsUpTo limit)
    (λ s known. rw known.at (omega (arith, first, greatest-le limit (take (s.index - from + 1) stamps) (all_take (λ n. n ≤ limit) (s.index - from + 1) stamps (stamps_up_to c from to sound)))))
    (segments_between c from to carry) (segments_known c from to carry)

-- ---- the segments of connections

abbrev EndsBy : ℕ → IndexedConnection → Type 0
EndsBy limit x = AllByRecursion (IsUpTo limit) (x.opening ∷ x.later)

connections_end : (limit : ℕ) (segs : List IndexedSegment) → AllByRecursion (IsUpTo limit) segs → AllByRecursion (EndsBy limit) (indexed_connections segs)
unfolding indexed_connections beginnings
connections_end limit segs all =
    all_enumerated (IsUpTo limit) (EndsBy limit) (indexed_connection_of segs)
    (λ n b here. (here, all_filter (IsUpTo limit) (λ s. nat_lt b.index s.index && is_at b (beginning_of segs s)) segs all)) 0 (beginnings segs) (all_filter (IsUpTo limit) (begins_in segs) segs all)

-- ---- and from the opening on

from_on : (opened last : ℕ) (ms : List TimedSegment) → opened ≤ last → InstantsRise last ms → AllByRecursion (λ m. opened ≤ m.at) ms
from_on opened last [] le rise = tt
from_on opened last (m ∷ ms) le rise = (le_trans le rise.0, from_on opened m.at ms (le_trans le rise.0) rise.1)

in_time : PayloadsAreInPlace → (c : CaptureView) → IsSoundCapture c.ticks c.bytes c.records → (x : IndexedConnection) → IsConnectionOf c x → EndsBy (horizon c.ticks) x → IsInTime c.ticks (without_indices x)
in_time law c sound x of ends = record {
  between =
      and_both (λ m. x.opening.timed.at ≤ m.at) (λ m. m.at ≤ horizon c.ticks) (IsBetween x.opening.timed.at (horizon c.ticks)) (λ m a b. (a, b)) (members_of (without_indices x))
      (le_refl x.opening.timed.at, from_on x.opening.timed.at x.opening.timed.at (map (λ s. s.timed) x.later) (le_refl x.opening.timed.at) of.rising.1)
      (all_map (λ m. m.at ≤ horizon c.ticks) (λ s. s.timed) (x.opening ∷ x.later) ends);
  rising = of.rising;
  short = shorts c.ticks c x sound law of;
}

pub connections_are_in_time : PayloadsAreInPlace → IndexedConnectionsAgree → ConnectionsAreInTime
connections_are_in_time law agree c from to carry sound first =
    let segs : List IndexedSegment = segments_between c from to carry in
    let each = and_both (IsConnectionOf c) (EndsBy (horizon c.ticks)) (λ x. IsInTime c.ticks (without_indices x)) (in_time law c sound) (indexed_connections segs)
    (connections_are_of_capture c from to carry) (connections_end (horizon c.ticks) segs (segments_up_to c from to carry sound first)) in
    rw (← agree segs) (all_map (IsInTime c.ticks) without_indices (indexed_connections segs) each)
