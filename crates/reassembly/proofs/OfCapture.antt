-- Each connection of a capture's segments is recorded in the capture, between two peers.
use Rattle.std.proofs.Common.{◌≡◌, ◌≤◌, ℕ, zero, suc, ◌+◌, ◌-◌, ◌&&◌, Bool, true, false, cond, List, [], ◌∷◌, map, filter, length, take, drop, slice_range, nat_lt, nat_le, slice_get, Option, Some, None, option_map, refl, sym, ap, ◌∙◌, subst, arith, zero-add, add-zero, if◌then◌else◌}
use Rattle.std.specs.Option.{unwrap_or}
use Rattle.std.specs.List.{AllByRecursion, filter_map, cons_option, enumerate_from, zip, range_with_len}
use Rattle.std.proofs.Math.Nat.{le_refl}
use Rattle.std.proofs.lemmas.Bool.{eqb-true, and_parts, ltb-true}
use Rattle.std.proofs.lemmas.List.{length-map}
use Rattle.std.proofs.lemmas.Option.{slice_get_within}
use Rattle.pcap_records.specs.CaptureView.{CaptureView, contents_of, stamps_between, packet_of}
use Rattle.pcap_records.specs.Reading.{Packet}
use Rattle.pcap_records.specs.Instants.{greatest, greatest_so_far, instants}
use Rattle.frame_headers.specs.Frame.{frame_class, segment_fields}
use Rattle.conn_table.specs.SeenCapture.{seen_packet, seen_packets}
use Rattle.conn_table.specs.IndexedSegments.{IndexedSegment, is_segment, indexed_segment, indexed_segments, same_pair, pair_of, pair_of_segment}
use Rattle.conn_table.specs.Connections.{last_of, of_one_pair, begins_in, beginnings, beginning_of, is_at}
use Rattle.conn_table.specs.IndexedConnections.{indexed_connection_of, indexed_connections}
use Rattle.conn_table.specs.KeptSegments.{frame_at}
use Rattle.conn_table.specs.Tables.{conn_in}
use Rattle.conn_table.proofs.Peers.{class_is, one_pair-is, same_pair-itself}
use Rattle.reassembly.specs.RecordedView.{IsRecorded, IsConnectionOf, IsConnOf, ConnectionsAreOfCapture, ConnsAreOfCapture}
use Rattle.reassembly.specs.LineLaws.{InstantsRise}
use Rattle.conn_table.specs.Partials.{segments_between}
use Rattle.std.proofs.lemmas.List.Elements.{recursion_from_All, filter_passes}
use Rattle.lists.proofs.Lists.{all_filter, all_map, all_weaker}
use Rattle.reassembly.proofs.MappedLists.{and_both, all_enumerated}

-- ---- segments

taken_at : (m k : ℕ) (ps : List Packet) (p : Packet) → slice_get (take m ps) k ≡ Some p → slice_get ps k ≡ Some p
taken_at zero k ps p e = absurd cc
taken_at (suc m) k [] p e = e
taken_at (suc m) zero (q ∷ qs) p e = e
taken_at (suc m) (suc k) (q ∷ qs) p e = taken_at m k qs p e

dropped_at : (n k : ℕ) (ps : List Packet) → slice_get (drop n ps) k ≡ slice_get ps (n + k)
dropped_at zero k ps = ap (slice_get ps) (sym (zero-add k))
dropped_at (suc n) k [] = refl
dropped_at (suc n) k (q ∷ qs) = let e : suc n + k ≡ suc (n + k) = omega arith in dropped_at n k qs ∙ ap (slice_get (q ∷ qs)) (sym e)

-- segments whose numbers rise, from n on, with K of each
abbrev Rise : (IndexedSegment → Type 0) → ℕ → List IndexedSegment → Type 0
Rise K n [] = Unit {0}
Rise K n (s ∷ segs) = (n ≤ s.index) × K s × Rise K (s.index + 1) segs

rise_all : (K : IndexedSegment → Type 0) (n : ℕ) (segs : List IndexedSegment) → Rise K n segs → AllByRecursion K segs
rise_all K n [] rise = tt
rise_all K n (s ∷ segs) rise = (rise.1, rise_all K (s.index + 1) segs rise.2)

rise_down : (K : IndexedSegment → Type 0) (n : ℕ) (segs : List IndexedSegment) → Rise K (n + 1) segs → Rise K n segs
rise_down K n [] rise = tt
rise_down K n (s ∷ segs) rise = (omega (arith, rise.0), rise.1, rise.2)

-- the segments in packets that are numbered from n on; f gives their instants, from x on
seen_all : (K : IndexedSegment → Type 0) (f : ℕ → ℕ) (n x : ℕ) (ps : List Packet)
    → ((k : ℕ) (p : Packet) → slice_get ps k ≡ Some p → is_segment (frame_class p.bytes) ≡ true → K (record { index = n + k; timed = record { at = f (x + k); fields = segment_fields p.bytes } }))
    → Rise K n (filter_map indexed_segment (enumerate_from n (map seen_packet (zip (map f (range_with_len x (length (map (λ p. p.stamp) ps)))) ps))))
seen_all K f n x [] each = tt
seen_all K f n x (p ∷ ps) each = by (is_segment (frame_class p.bytes)) refl (seen_all K f (n + 1) (x + 1) ps later)
  where
    later : (k : ℕ) (q : Packet) → slice_get ps k ≡ Some q → is_segment (frame_class q.bytes) ≡ true → K (record { index = n + 1 + k; timed = record { at = f (x + 1 + k); fields = segment_fields q.bytes } })
    later k q here is =
        let e : n + 1 + k ≡ n + suc k = omega arith in
        let d : x + 1 + k ≡ x + suc k = omega arith in
        rw (e, d) (each (suc k) q here is)

    rest : List IndexedSegment
    rest = filter_map indexed_segment (enumerate_from (n + 1) (map seen_packet (zip (map f (range_with_len (x + 1) (length (map (λ p. p.stamp) ps)))) ps)))

    by : (t : Bool) → is_segment (frame_class p.bytes) ≡ t → Rise K (n + 1) rest
        → Rise K n (cons_option (if t then Some (record { index = n; timed = record { at = f x; fields = segment_fields p.bytes } }) else None) rest)
    by true is more = (le_refl n, rw (add-zero n, add-zero x) at (each 0 p refl is), more)
    by false is more = rise_down K n rest more

-- a segment of a range is recorded, and its instant is the greatest stamp so far
pub record IsKnown (c : CaptureView) (from carry : ℕ) (stamps : List ℕ) (s : IndexedSegment) : Type 0 where
  pub recorded : IsRecorded c s
  pub at : s.timed.at ≡ greatest_so_far carry stamps (s.index - from)

segments_rise : (c : CaptureView) (from to carry : ℕ) → Rise (IsKnown c from carry (stamps_between c from to)) from (segments_between c from to carry)
unfolding indexed_segments seen_packets instants
segments_rise c from to carry =
    let all : List Packet = (contents_of c).packets in
    let f : ℕ → ℕ = greatest_so_far carry (stamps_between c from to) in
    seen_all (IsKnown c from carry (stamps_between c from to)) f from 0 (slice_range all from to)
    (λ k p here is.
    let got : slice_get all (from + k) ≡ Some p = sym (dropped_at from k all) ∙ taken_at (to - from) k (drop from all) p here in
    let frame : frame_at c (from + k) ≡ p.bytes = ap (λ o. unwrap_or (option_map (λ (q : Packet). q.bytes) o) []) got in
    let place : 0 + k ≡ from + k - from = omega arith in
    record {
      recorded = record {
        within = rw (length-map c.records (packet_of c.bytes)) at (slice_get_within all (from + k) p got);
        class = ap frame_class frame ∙ class_is (frame_class p.bytes) is;
        fields = ap segment_fields (sym frame);
      };
      at = ap f place;
    })

pub segments_known : (c : CaptureView) (from to carry : ℕ) → AllByRecursion (IsKnown c from carry (stamps_between c from to)) (segments_between c from to carry)
segments_known c from to carry = rise_all (IsKnown c from carry (stamps_between c from to)) from (segments_between c from to carry) (segments_rise c from to carry)

-- ---- order

greatest-take : (i j : ℕ) (xs : List ℕ) → i ≤ j → greatest (take i xs) ≤ greatest (take j xs)
greatest-take zero j xs le = omega arith
greatest-take (suc i) zero xs le = absurd (omega arith)
greatest-take (suc i) (suc j) [] le = omega arith
greatest-take (suc i) (suc j) (x ∷ xs) le = let h = greatest-take i j xs (omega arith) in omega arith

so_far-rises : (carry : ℕ) (stamps : List ℕ) (i j : ℕ) → i ≤ j → greatest_so_far carry stamps i ≤ greatest_so_far carry stamps j
so_far-rises carry stamps i j le = let h = greatest-take (i + 1) (j + 1) stamps (omega arith) in omega arith

-- the instants of segments that pass a test do not fall, if all that pass have numbers from m on
rise_of : (c : CaptureView) (from carry : ℕ) (stamps : List ℕ) (Q : IndexedSegment → Bool) (m : ℕ) → ((s : IndexedSegment) → Q s ≡ true → m ≤ s.index) → (n t : ℕ) (segs : List IndexedSegment)
    → Rise (IsKnown c from carry stamps) n segs → ((i : ℕ) → m ≤ i → n ≤ i → t ≤ greatest_so_far carry stamps (i - from))
    → InstantsRise t (map (λ s. s.timed) (filter Q segs))
rise_of c from carry stamps Q m passes n t [] rise above = tt
rise_of c from carry stamps Q m passes n t (s ∷ segs) rise above = by (Q s) refl (λ last. rise_of c from carry stamps Q m passes (s.index + 1) last segs rise.2)
  where
    by : (b : Bool) → Q s ≡ b
        → ((last : ℕ) → ((i : ℕ) → m ≤ i → s.index + 1 ≤ i → last ≤ greatest_so_far carry stamps (i - from)) → InstantsRise last (map (λ s. s.timed) (filter Q segs)))
        → InstantsRise t (map (λ s. s.timed) (cond b (s ∷ filter Q segs) (filter Q segs)))
    by true e later = (
      rw rise.1.at (above s.index (passes s e) rise.0),
      later s.timed.at (λ i a b. rw rise.1.at (so_far-rises carry stamps (s.index - from) (i - from) (omega arith))),
    )
    by false e later = later t (λ i a b. above i a (omega (arith, rise.0)))

-- ---- pairs

last_has : (P : IndexedSegment → Type 0) (xs : List IndexedSegment) → AllByRecursion P xs → (y : IndexedSegment) → last_of xs ≡ Some y → P y
last_has P [] all y e = absurd cc
last_has P (x ∷ []) all y e = let same : x ≡ y = cc in subst P same all.0
last_has P (x ∷ z ∷ zs) all y e = last_has P (z ∷ zs) all.1 y e

both : (P : IndexedSegment → Type 0) (p : IndexedSegment → Bool) (xs : List IndexedSegment) → AllByRecursion P xs → AllByRecursion (λ s. P s × (p s ≡ true)) (filter p xs)
both P p xs all =
    and_both P (λ s. p s ≡ true) (λ s. P s × (p s ≡ true)) (λ s a b. (a, b)) (filter p xs) (all_filter P p xs all) (recursion_from_All (λ s. p s ≡ true) (filter p xs) (filter_passes p xs))

at_one_record : (c : CaptureView) (b y : IndexedSegment) → IsRecorded c b → IsRecorded c y → y.index ≡ b.index → pair_of_segment y ≡ pair_of_segment b
at_one_record c b y rec_b rec_y e =
    let fields : y.timed.fields ≡ b.timed.fields = rec_y.fields ∙ ap (λ k. segment_fields (frame_at c k)) e ∙ sym rec_b.fields in
    ap (λ f. pair_of f.vlan f.from f.to) fields

paired_by : (c : CaptureView) (segs : List IndexedSegment) (b s : IndexedSegment) → AllByRecursion (IsRecorded c) (beginnings segs) → IsRecorded c b → is_at b (beginning_of segs s) ≡ true → of_one_pair b s ≡ true
paired_by c segs b s all rec_b is = by_beginning (beginning_of segs s) refl is
  where
    by_beginning : (o : Option IndexedSegment) → beginning_of segs s ≡ o → is_at b o ≡ true → of_one_pair b s ≡ true
    by_beginning None e h = absurd cc
    by_beginning (Some y) e h =
        let P : IndexedSegment → Type 0 = λ k. IsRecorded c k × ((of_one_pair s k && nat_le k.index s.index) ≡ true) in
        let known = last_has P (filter (λ k. of_one_pair s k && nat_le k.index s.index) (beginnings segs)) (both (IsRecorded c) (λ k. of_one_pair s k && nat_le k.index s.index) (beginnings segs) all) y e in
        let here : y.index ≡ b.index = eqb-true y.index b.index h in
        let pair : pair_of_segment y ≡ pair_of_segment s = one_pair-is s y (and_parts (of_one_pair s y) (nat_le y.index s.index) known.1).0 in
        let same : pair_of_segment s ≡ pair_of_segment b = sym pair ∙ at_one_record c b y rec_b known.0 here in
        ap (λ k. same_pair k (pair_of_segment b)) same ∙ same_pair-itself (pair_of_segment b)

-- ---- connections

module _ (c : CaptureView) (from to carry : ℕ) where
  abbrev segs : List IndexedSegment
  segs = segments_between c from to carry

  abbrev Known : IndexedSegment → Type 0
  Known s = IsKnown c from carry (stamps_between c from to) s

  known : AllByRecursion Known segs
  known = segments_known c from to carry

  rec : AllByRecursion (IsRecorded c) segs
  rec = all_weaker Known (IsRecorded c) (λ s k. k.recorded) segs known

  beginnings_all : (P : IndexedSegment → Type 0) → AllByRecursion P segs → AllByRecursion P (beginnings segs)
  unfolding beginnings
  beginnings_all P all = all_filter P (begins_in segs) segs all

  of_beginning : (n : ℕ) (b : IndexedSegment) → Known b → IsConnectionOf c (indexed_connection_of segs (n, b))
  of_beginning n b is =
      let Q : IndexedSegment → Bool = λ s. nat_lt b.index s.index && is_at b (beginning_of segs s) in
      let passing = recursion_from_All (λ s. Q s ≡ true) (filter Q segs) (filter_passes Q segs) in
      record {
        recorded = (is.recorded, all_filter (IsRecorded c) Q segs rec);
        paired = all_weaker (λ s. Q s ≡ true) (λ s. of_one_pair b s ≡ true)
            (λ s e. paired_by c segs b s (beginnings_all (IsRecorded c) rec) is.recorded (and_parts (nat_lt b.index s.index) (is_at b (beginning_of segs s)) e).1) (filter Q segs) passing;
        rising = (
          omega arith,
          rise_of c from carry (stamps_between c from to) Q b.index
              (λ s e. let lt = ltb-true b.index s.index (and_parts (nat_lt b.index s.index) (is_at b (beginning_of segs s)) e).0 in omega arith) from b.timed.at segs (segments_rise c from to carry)
              (λ i a d. rw is.at (so_far-rises carry (stamps_between c from to) (b.index - from) (i - from) (omega arith))),
        );
      }

pub connections_are_of_capture : ConnectionsAreOfCapture
unfolding indexed_connections
connections_are_of_capture c from to carry =
    all_enumerated (Known c from to carry) (IsConnectionOf c) (indexed_connection_of (segments_between c from to carry)) (of_beginning c from to carry) 0 (beginnings (segments_between c from to carry))
    (beginnings_all c from to carry (Known c from to carry) (known c from to carry))

pub conns_are_of_capture : ConnsAreOfCapture
conns_are_of_capture c from to carry =
    let xs = indexed_connections (segments_between c from to carry) in
    all_map (IsConnOf c) (conn_in c) xs
    (all_weaker (IsConnectionOf c) (λ x. IsConnOf c (conn_in c x)) (λ x of. record { connection = x; of_capture = of; shown = refl }) xs (connections_are_of_capture c from to carry))
