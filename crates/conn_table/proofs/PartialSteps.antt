-- The partial of a range, one record after another.
use Rattle.std.proofs.Common.{◌≡◌, ◌<◌, ◌≤◌, ℕ, ◌+◌, ◌-◌, max, ◌^◌, Bool, true, false, cond, List, [], ◌∷◌, ◌++◌, length, map, take, drop, get_or, slice_get, Option, Some, None, refl, sym, ap, subst, ◌∙◌, arith, length-take}
use Rattle.std.specs.Prelude.{unwrap_or}
use Rattle.std.specs.List.{cons_option}
use Rattle.std.proofs.lemmas.List.{length-map, get_or-map, map_push, append-nil}
use Rattle.std.proofs.lemmas.Option.{same_Some, slice_get-map, slice_get_read}
use Rattle.pcap_records.specs.Instants.{instants}
use Rattle.pcap_records.specs.declared.capture.Record.{Record}
use Rattle.pcap_records.specs.Reading.{Packet}
use Rattle.pcap_records.specs.CaptureView.{CaptureView, contents_of, packet_of, packet_at, IsSoundCapture, IsWithinFile}
use Rattle.frame_headers.specs.Frame.{FrameClass, frame_class, segment, segment_fields, payload_offset}
use Rattle.frame_headers.specs.Class.{frame_class_of}
use Rattle.frame_headers.specs.declared.classes.Class.{Class}
use Rattle.frame_headers.specs.declared.classes.Class.TheVariants as classes
use Rattle.frame_headers.specs.declared.classes.Segment.{Segment}
use Rattle.conn_table.specs.SeenCapture.{SeenPacket, seen_packet, seen_packets}
use Rattle.conn_table.specs.IndexedSegments.{IndexedSegment, is_segment, indexed_segments}
use Rattle.conn_table.specs.ClassCounts.{counts_of, counts_with, count_at}
use Rattle.conn_table.specs.KeptSegments.{kept_in, kept_at, segment_read, frame_at, payload_start}
use Rattle.conn_table.specs.Partials.{packets_between, segments_between, carried}
use Rattle.conn_table.proofs.CountingSteps.{counts_of-push, count_at-le-length}
use Rattle.conn_table.proofs.RangeSteps.{packets_between-more, length-packets_between, indexed_segments-append, carried-more}

-- ---- record i of a capture, whose packet has these bytes

pub record IsRecordOf (c : CaptureView) (i : ℕ) (r : Record) (bytes : List ℕ) : Type 0 where
  pub within : i < length c.records
  pub is : r ≡ get_or c.records i r
  pub packet : packet_at c i ≡ Some bytes

length-packets : (c : CaptureView) → length (contents_of c).packets ≡ length c.records
length-packets c = length-map c.records (packet_of c.bytes)

at_record : (c : CaptureView) (i : ℕ) (r : Record) (bytes : List ℕ) → IsRecordOf c i r bytes → slice_get c.records i ≡ Some r
at_record c i r bytes here = slice_get_read c.records (length c.records) i r refl here.within here.is

bytes_are : (c : CaptureView) (i : ℕ) (r : Record) (bytes : List ℕ) → IsRecordOf c i r bytes → take r.len (drop r.start c.bytes) ≡ bytes
bytes_are c i r bytes here =
    let told : packet_at c i ≡ Some (packet_of c.bytes r).bytes = rw (slice_get-map (packet_of c.bytes) c.records i, at_record c i r bytes here) refl in
    same_Some _ _ (sym told ∙ here.packet)

-- its packet in the capture's contents
packet_is : (c : CaptureView) (i : ℕ) (r : Record) (bytes : List ℕ) (d : Packet) → IsRecordOf c i r bytes → get_or (contents_of c).packets i d ≡ record { stamp = r.stamp; bytes = bytes }
packet_is c i r bytes d here =
    get_or-map (packet_of c.bytes) c.records i r d here.within
    ∙ (ap (λ (x : Record). packet_of c.bytes x) (sym here.is) ∙ ap (λ (bs : List ℕ). record { stamp = r.stamp; bytes = bs }) (bytes_are c i r bytes here))

pub start_is : (c : CaptureView) (i : ℕ) (r : Record) (bytes : List ℕ) → IsRecordOf c i r bytes → payload_start c i ≡ r.start + payload_offset bytes
start_is c i r bytes here =
    let frame : frame_at c i ≡ bytes = ap (λ (o : Option (List ℕ)). unwrap_or o []) here.packet in
    rw (frame, at_record c i r bytes here) refl

-- a packet ends before 2^30
pub ends_within : (c : CaptureView) (i : ℕ) (r : Record) (bytes : List ℕ) → IsSoundCapture c.ticks c.bytes c.records → IsRecordOf c i r bytes → r.start + length bytes < 2 ^ 32
ends_within c i r bytes sound here =
    let len : length (take r.len (drop r.start c.bytes)) ≡ length bytes = ap (λ (bs : List ℕ). length bs) (bytes_are c i r bytes here) in
    let in_file : IsWithinFile c.ticks c.bytes r = subst (IsWithinFile c.ticks c.bytes) (sym here.is) (sound.within i r here.within) in
    omega (arith, len, length-take r.len (drop r.start c.bytes), in_file.ends, sound.limited)

-- ---- no record

no_packets : (c : CaptureView) (from carry : ℕ) → packets_between c from from carry ≡ []
unfolding seen_packets instants
no_packets c from carry = let none : from - from ≡ 0 = omega arith in rw none refl

pub at-none : (c : CaptureView) (from carry : ℕ) → carry ≡ carried c from from carry
at-none c from carry = let none : from - from ≡ 0 = omega arith in rw none (omega arith)

pub counts-none : (c : CaptureView) (from carry : ℕ) → counts_of [] ≡ counts_of (packets_between c from from carry)
counts-none c from carry = ap (λ (ps : List SeenPacket). counts_of ps) (sym (no_packets c from carry))

pub segments-none : (c : CaptureView) (from carry : ℕ) → segments_between c from from carry ≡ []
unfolding indexed_segments
segments-none c from carry = rw (no_packets c from carry) refl

pub kept-none : (c : CaptureView) (from carry : ℕ) → [] ≡ map (kept_in c) (segments_between c from from carry)
unfolding indexed_segments
kept-none c from carry = rw (no_packets c from carry) refl

-- ---- one record more

-- the segments of a packet: one, or none
abbrev pub segment_list : Bool → IndexedSegment → List IndexedSegment
segment_list is s = cond is (s ∷ []) []

module _ (c : CaptureView) (from i carry : ℕ) (r : Record) (bytes : List ℕ) (ordered : from ≤ i) (here : IsRecordOf c i r bytes) where
  -- the greatest stamp up to it
  abbrev at : ℕ
  at = max (carried c from i carry) r.stamp

  abbrev next_packet : SeenPacket
  next_packet = seen_packet (at, record { stamp = r.stamp; bytes = bytes })

  packets_more : packets_between c from (i + 1) carry ≡ packets_between c from i carry ++ next_packet ∷ []
  packets_more =
      let p : Packet = record { stamp = r.stamp; bytes = bytes } in
      packets_between-more c from i carry p ordered (omega (arith, here.within, length-packets c))
      ∙ ap (λ (x : Packet). packets_between c from i carry ++ seen_packet (max (carried c from i carry) x.stamp, x) ∷ []) (packet_is c i r bytes p here)

  pub at-more : at ≡ carried c from (i + 1) carry
  at-more =
      let p : Packet = record { stamp = r.stamp; bytes = bytes } in
      sym (carried-more c from i carry p ordered (omega (arith, here.within, length-packets c)) ∙ ap (λ (x : Packet). max (carried c from i carry) x.stamp) (packet_is c i r bytes p here))

  pub counts-more : counts_with (frame_class bytes) (counts_of (packets_between c from i carry)) ≡ counts_of (packets_between c from (i + 1) carry)
  counts-more = sym (ap (λ (ps : List SeenPacket). counts_of ps) packets_more ∙ counts_of-push (packets_between c from i carry) next_packet)

  -- its segment, if it has one
  abbrev pub next_segment : IndexedSegment
  next_segment = segment_read i at (segment_fields bytes)

  pub segments_more : segments_between c from (i + 1) carry ≡ segments_between c from i carry ++ segment_list (is_segment (frame_class bytes)) next_segment
  unfolding indexed_segments
  segments_more =
      let len : length (packets_between c from i carry) ≡ i - from = length-packets_between c from i carry ordered (omega (arith, length-packets c, here.within)) in
      let place : from + length (packets_between c from i carry) ≡ i = omega arith in
      let both = rw place at (indexed_segments-append from (packets_between c from i carry) (next_packet ∷ [])) in
      ap (λ (ps : List SeenPacket). indexed_segments from ps) packets_more
      ∙ (both ∙ ap (λ (xs : List IndexedSegment). indexed_segments from (packets_between c from i carry) ++ xs) (by_test (is_segment (frame_class bytes))))
    where
      by_test : (b : Bool) → cons_option (cond b (Some next_segment) None) [] ≡ segment_list b next_segment
      by_test true = refl
      by_test false = refl

  pub kept-segment : frame_class bytes ≡ segment
      → map (kept_in c) (segments_between c from i carry) ++ kept_at (r.start + payload_offset bytes) next_segment ∷ [] ≡ map (kept_in c) (segments_between c from (i + 1) carry)
  kept-segment is =
      let segs : List IndexedSegment = segments_between c from i carry in
      let all : segments_between c from (i + 1) carry ≡ segs ++ next_segment ∷ [] = segments_more ∙ ap (λ (k : FrameClass). segs ++ segment_list (is_segment k) next_segment) is in
      ap (λ (n : ℕ). map (kept_in c) segs ++ kept_at n next_segment ∷ []) (sym (start_is c i r bytes here))
      ∙ (sym (map_push (kept_in c) segs next_segment) ∙ ap (λ (xs : List IndexedSegment). map (kept_in c) xs) (sym all))

  pub kept-other : is_segment (frame_class bytes) ≡ false → map (kept_in c) (segments_between c from i carry) ≡ map (kept_in c) (segments_between c from (i + 1) carry)
  kept-other other =
      let segs : List IndexedSegment = segments_between c from i carry in
      let all = segments_more ∙ ap (λ (b : Bool). segs ++ segment_list b next_segment) other in
      ap (λ (xs : List IndexedSegment). map (kept_in c) xs) (sym (all ∙ append-nil segs))

pub counts-few : (c : CaptureView) (from to carry : ℕ) (k : FrameClass) → from ≤ to → to ≤ length c.records → count_at k (counts_of (packets_between c from to carry)) ≤ to - from
counts-few c from to carry k ordered within =
    let len = length-packets_between c from to carry ordered (omega (arith, length-packets c)) in
    omega (arith, count_at-le-length k (packets_between c from to carry), len)

-- the class of what is no segment
pub is_segment-other : (k : Class) → ((s : Segment) → k ≡ classes.Segment s → ⊥) → is_segment (frame_class_of k) ≡ false
is_segment-other classes.Short other = refl
is_segment-other classes.NotIpv4 other = refl
is_segment-other classes.BadIpv4 other = refl
is_segment-other classes.Fragment other = refl
is_segment-other classes.NotTcp other = refl
is_segment-other classes.Cut other = refl
is_segment-other classes.BadTcp other = refl
is_segment-other classes.SameEnds other = refl
is_segment-other (classes.Segment s) other = absurd (other s refl)
