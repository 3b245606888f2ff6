-- Payloads lie in the file, and members stand in its order.
use Rattle.std.proofs.Common.{◌≡◌, ◌<◌, ◌≤◌, ℕ, zero, suc, ◌+◌, ◌-◌, max, Bool, true, false, ◌&&◌, cond, nat_lt, List, [], ◌∷◌, length, map, filter, take, drop, get_or, slice_get, slice_range, Some, refl, sym, ap, subst, ◌∙◌, arith, length-take}
use Rattle.std.specs.List.{AllByRecursion, enumerate_from}
use Rattle.std.proofs.lemmas.Bool.{and_parts, ltb-true}
use Rattle.std.proofs.lemmas.List.{drop-drop, take-take, get_or_default}
use Rattle.std.proofs.lemmas.Option.{slice_get-map, slice_get-get_or}
use Rattle.pcap_records.specs.declared.capture.Record.{Record}
use Rattle.pcap_records.specs.CaptureView.{CaptureView, packet_of, IsSoundCapture, IsWithinFile}
use Rattle.frame_headers.specs.Frame.{frame_class, segment, segment_fields, payload_offset}
use Rattle.frame_headers.specs.HeaderLaws.{IsPayloadInPlace, PayloadsAreInPlace}
use Rattle.conn_table.specs.IndexedSegments.{IndexedSegment, is_segment}
use Rattle.conn_table.specs.Connections.{begins_in, beginnings, is_at, beginning_of}
use Rattle.conn_table.specs.IndexedConnections.{indexed_connection_of, indexed_connections}
use Rattle.conn_table.specs.KeptSegments.{payload_start, segment_read}
use Rattle.conn_table.specs.Partials.{packets_between, segments_between, carried}
use Rattle.conn_table.specs.Tables.{member_in, conn_in, table_in}
use Rattle.conn_table.specs.TableFacts.{IsPlaced, PayloadsArePlaced, MembersRise, IsSoundConn, ConnsAreSound}
use Rattle.conn_table.specs.declared.conns.Member.{Member}
use Rattle.lists.proofs.Lists.{all_append, all_filter, all_map, all_weaker, drop_of_take}
use Rattle.conn_table.proofs.GroupingFilters.{all_pass}
use Rattle.conn_table.proofs.GroupingOrder.{IsRising, rising_lower, rising_between}
use Rattle.conn_table.proofs.Peers.{class_is}
use Rattle.conn_table.proofs.PartialSteps.{IsRecordOf, start_is, segments_more, segment_list, segments-none}

-- ---- payloads

-- a part of a part of the file
pub placed_part : (file : List ℕ) (start len off n : ℕ) → off + n ≤ length (take len (drop start file)) → start + len ≤ length file
    → slice_range file (start + off) (start + off + n) ≡ slice_range (take len (drop start file)) off (off + n)
placed_part file start len off n within in_file =
    let short : off + n ≤ len = omega (arith, length-take len (drop start file)) in
    let first : start + off + n - (start + off) ≡ n = omega arith in
    let second : off + n - off ≡ n = omega arith in
    rw (first, second, drop_of_take off len (drop start file) (omega arith), take-take n (len - off) (drop off (drop start file)) (omega arith), drop-drop off start file) refl

placed_at : PayloadsAreInPlace → (c : CaptureView) (i at : ℕ) (r : Record) → IsSoundCapture c.ticks c.bytes c.records → IsRecordOf c i r (packet_of c.bytes r).bytes → frame_class (packet_of c.bytes r).bytes ≡ segment
    → IsPlaced c (segment_read i at (segment_fields (packet_of c.bytes r).bytes))
placed_at in_place c i at r sound here is =
    let bytes : List ℕ = (packet_of c.bytes r).bytes in
    let in_frame : IsPayloadInPlace bytes = in_place bytes is in
    let in_file : IsWithinFile c.ticks c.bytes r = subst (IsWithinFile c.ticks c.bytes) (sym here.is) (sound.within i r here.within) in
    let start : payload_start c i ≡ r.start + payload_offset bytes = start_is c i r bytes here in
    let n : ℕ = length (segment_fields bytes).payload in
    record {
      within = omega (arith, start, in_frame.within, in_file.ends, length-take r.len (drop r.start c.bytes));
      bytes = rw start (placed_part c.bytes r.start r.len (payload_offset bytes) n in_frame.within in_file.ends ∙ in_frame.bytes);
    }

-- the segment of a packet, if it has one
placed_if : (c : CaptureView) (s : IndexedSegment) (is : Bool) → (is ≡ true → IsPlaced c s) → AllByRecursion (IsPlaced c) (segment_list is s)
placed_if c s true placed = (placed refl, tt)
placed_if c s false placed = tt

-- n records from a place on
placed_from : PayloadsAreInPlace → (c : CaptureView) (from carry n : ℕ) → IsSoundCapture c.ticks c.bytes c.records → from + n ≤ length c.records → AllByRecursion (IsPlaced c) (segments_between c from (from + n) carry)
placed_from in_place c from carry zero sound within =
    let none : from + 0 ≡ from = omega arith in
    subst (AllByRecursion (IsPlaced c)) (sym (ap (λ (to : ℕ). segments_between c from to carry) none ∙ segments-none c from carry)) tt
placed_from in_place c from carry (suc n) sound within =
    let i : ℕ = from + n in
    let next : from + suc n ≡ i + 1 = omega arith in
    let below : i < length c.records = omega arith in
    let d : Record = record { stamp = 0; start = 0; len = 0 } in
    let r : Record = get_or c.records i d in
    let bytes : List ℕ = (packet_of c.bytes r).bytes in
    let at : slice_get c.records i ≡ Some r = slice_get-get_or c.records i d below in
    let here : IsRecordOf c i r bytes = record {
      within = below;
      is = get_or_default c.records i d r below;
      packet = rw (slice_get-map (packet_of c.bytes) c.records i, at) refl;
    } in
    let instant : ℕ = max (carried c from i carry) r.stamp in
    let s : IndexedSegment = segment_read i instant (segment_fields bytes) in
    let last = placed_if c s (is_segment (frame_class bytes)) (λ is. placed_at in_place c i instant r sound here (class_is (frame_class bytes) is)) in
    let whole = all_append (IsPlaced c) (segments_between c from i carry) (segment_list (is_segment (frame_class bytes)) s) (placed_from in_place c from carry n sound (omega arith)) last in
    subst (AllByRecursion (IsPlaced c)) (sym (ap (λ (to : ℕ). segments_between c from to carry) next ∙ segments_more c from i carry r bytes (omega arith) here)) whole

pub payloads_are_placed : PayloadsAreInPlace → PayloadsArePlaced
payloads_are_placed in_place c from to carry sound ordered within =
    let whole : from + (to - from) ≡ to = omega arith in
    subst (λ (n : ℕ). AllByRecursion (IsPlaced c) (segments_between c from n carry)) whole (placed_from in_place c from carry (to - from) sound (omega arith))

-- ---- members

rising_filter : (n : ℕ) (Q : IndexedSegment → Bool) (segs : List IndexedSegment) → IsRising n segs → IsRising n (filter Q segs)
rising_filter n Q [] rising = tt
rising_filter n Q (s ∷ segs) rising = by_test (Q s) (rising_filter (s.index + 1) Q segs rising.1)
  where
    by_test : (t : Bool) → IsRising (s.index + 1) (filter Q segs) → IsRising n (cond t (s ∷ filter Q segs) (filter Q segs))
    by_test true rest = (rising.0, rest)
    by_test false rest = rising_lower n (s.index + 1) (filter Q segs) (omega (arith, rising.0)) rest

-- if all numbers are m at least
rising_above : (m n : ℕ) (segs : List IndexedSegment) → AllByRecursion (λ s. m ≤ s.index) segs → IsRising n segs → IsRising m segs
rising_above m n [] above rising = tt
rising_above m n (s ∷ segs) above rising = (above.0, rising.1)

members_rise : (c : CaptureView) (p : IndexedSegment) (n : ℕ) (segs : List IndexedSegment) → IsRising n segs → MembersRise n (map (member_in c p.timed.fields.from) segs)
members_rise c p n [] rising = tt
members_rise c p n (s ∷ segs) rising = (rising.0, members_rise c p (s.index + 1) segs rising.1)

conn_is_sound : (c : CaptureView) (n k : ℕ) (all : List IndexedSegment) (b : IndexedSegment) → IsRising n all → AllByRecursion (IsPlaced c) all → IsPlaced c b → IsSoundConn c.bytes (conn_in c (indexed_connection_of all (k, b)))
conn_is_sound c n k all b rising placed mine =
    let Q : IndexedSegment → Bool = λ s. nat_lt b.index s.index && is_at b (beginning_of all s) in
    let above = all_weaker (λ s. Q s ≡ true) (λ s. b.index + 1 ≤ s.index) (λ s passes. omega (arith, ltb-true b.index s.index (and_parts (nat_lt b.index s.index) (is_at b (beginning_of all s)) passes).0)) (filter Q all) (all_pass Q all) in
    let within = all_weaker (IsPlaced c) (λ s. payload_start c s.index + length s.timed.fields.payload ≤ length c.bytes) (λ s is. is.within) (filter Q all) (all_filter (IsPlaced c) Q all placed) in
    record {
      first = refl;
      rising = (omega arith, members_rise c b (b.index + 1) (filter Q all) (rising_above (b.index + 1) n (filter Q all) above (rising_filter n Q all rising)));
      placed = (mine.within, all_map (λ (m : Member). m.start + m.len ≤ length c.bytes) (member_in c b.timed.fields.from) (filter Q all) within);
    }

conns_sound : (c : CaptureView) (n k : ℕ) (all bs : List IndexedSegment) → IsRising n all → AllByRecursion (IsPlaced c) all → AllByRecursion (IsPlaced c) bs
    → AllByRecursion (IsSoundConn c.bytes) (map (conn_in c) (map (indexed_connection_of all) (enumerate_from k bs)))
conns_sound c n k all [] rising placed each = tt
conns_sound c n k all (b ∷ bs) rising placed each = (conn_is_sound c n k all b rising placed each.0, conns_sound c n (k + 1) all bs rising placed each.1)

pub conns_are_sound : PayloadsAreInPlace → ConnsAreSound
unfolding table_in indexed_connections beginnings
conns_are_sound in_place c from to carry sound ordered within =
    let segs : List IndexedSegment = segments_between c from to carry in
    let placed = payloads_are_placed in_place c from to carry sound ordered within in
    let rising = rising_between from (packets_between c from to carry) in
    conns_sound c from 0 segs (filter (begins_in segs) segs) rising placed (all_filter (IsPlaced c) (begins_in segs) segs placed)
