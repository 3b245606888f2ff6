-- The packets and the segments of a range of records, and of two adjacent ones, and the join of their partials.
use Rattle.std.proofs.Common.{◌≡◌, ◌<◌, ◌≤◌, ℕ, suc, ◌+◌, ◌-◌, max, List, [], ◌∷◌, ◌++◌, length, map, drop, get_or, refl, ap, ◌∙◌, arith, length-take, length-drop}
use Rattle.std.specs.List.{slice_range, enumerate_from}
use Rattle.std.proofs.Math.Seq.{take-add}
use Rattle.std.proofs.lemmas.List.{drop-drop, map-append, drop_more, length-map}
use Rattle.std.proofs.lemmas.List.Elements.{filter_map-append}
use Rattle.pcap_records.specs.Instants.{greatest}
use Rattle.pcap_records.specs.Reading.{Packet}
use Rattle.pcap_records.specs.CaptureView.{CaptureView, contents_of, packet_of, stamps_between}
use Rattle.pcap_records.proofs.Running.{instants-cons, instants-nil}
use Rattle.conn_table.specs.SeenCapture.{SeenPacket, seen_packet, seen_packets}
use Rattle.conn_table.specs.IndexedSegments.{indexed_segment, indexed_segments}
use Rattle.conn_table.specs.KeptSegments.{kept_in}
use Rattle.conn_table.specs.Partials.{packets_between, segments_between, carried, partial_in, joined_partial, JoinsAgree}
use Rattle.conn_table.proofs.CountingSteps.{counts_of-append}

-- ---- parts of lists

pub slice_range-append : {X : Type 0} (from mid to : ℕ) (xs : List X) → from ≤ mid → mid ≤ to → slice_range xs from to ≡ slice_range xs from mid ++ slice_range xs mid to
slice_range-append from mid to xs first second =
    let whole : to - from ≡ (mid - from) + (to - mid) = omega arith in
    let place : from + (mid - from) ≡ mid = omega arith in
    rw (whole, take-add (mid - from) (to - mid) (drop from xs), drop-drop (mid - from) from xs, place) refl

pub slice_range-one : {X : Type 0} (i : ℕ) (xs : List X) (d : X) → i < length xs → slice_range xs i (i + 1) ≡ get_or xs i d ∷ []
slice_range-one i xs d within = let one : i + 1 - i ≡ 1 = omega arith in rw (one, drop_more xs i d within) refl

-- ---- packets with their instants

seen_packets-cons : (carry : ℕ) (p : Packet) (ps : List Packet) → seen_packets carry (p ∷ ps) ≡ seen_packet (max carry p.stamp, p) ∷ seen_packets (max carry p.stamp) ps
unfolding seen_packets
seen_packets-cons carry p ps = rw (instants-cons carry p.stamp (map (λ (x : Packet). x.stamp) ps)) refl

seen_packets-nil : (carry : ℕ) → seen_packets carry [] ≡ []
unfolding seen_packets
seen_packets-nil carry = rw (instants-nil carry) refl

seen_packets-append : (carry : ℕ) (xs ys : List Packet) → seen_packets carry (xs ++ ys) ≡ seen_packets carry xs ++ seen_packets (max carry (greatest (map (λ p. p.stamp) xs))) ys
seen_packets-append carry [] ys = let e : max carry 0 ≡ carry = omega arith in rw (seen_packets-nil carry, e) refl
seen_packets-append carry (p ∷ xs) ys =
    let g : ℕ = greatest (map (λ (x : Packet). x.stamp) xs) in
    let e : max (max carry p.stamp) g ≡ max carry (max p.stamp g) = omega arith in
    rw (seen_packets-cons carry p (xs ++ ys), seen_packets-cons carry p xs, seen_packets-append (max carry p.stamp) xs ys, e) refl

pub length-seen_packets : (carry : ℕ) (ps : List Packet) → length (seen_packets carry ps) ≡ length ps
length-seen_packets carry [] = rw (seen_packets-nil carry) refl
length-seen_packets carry (p ∷ ps) = rw (seen_packets-cons carry p ps, length-seen_packets (max carry p.stamp) ps) refl

-- ---- segments with their numbers

pub enumerate_from-append : {X : Type 0} (n : ℕ) (xs ys : List X) → enumerate_from n (xs ++ ys) ≡ enumerate_from n xs ++ enumerate_from (n + length xs) ys
enumerate_from-append n [] ys = let e : n + 0 ≡ n = omega arith in rw e refl
enumerate_from-append n (x ∷ xs) ys = let e : n + 1 + length xs ≡ n + suc (length xs) = omega arith in rw (enumerate_from-append (n + 1) xs ys, e) refl

pub indexed_segments-append : (n : ℕ) (xs ys : List SeenPacket) → indexed_segments n (xs ++ ys) ≡ indexed_segments n xs ++ indexed_segments (n + length xs) ys
unfolding indexed_segments
indexed_segments-append n xs ys =
    rw (enumerate_from-append n xs ys, filter_map-append indexed_segment (enumerate_from n xs) (enumerate_from (n + length xs) ys)) refl

-- ---- ranges

pub packets_between-append : (c : CaptureView) (from mid to carry : ℕ) → from ≤ mid → mid ≤ to
    → packets_between c from to carry ≡ packets_between c from mid carry ++ packets_between c mid to (carried c from mid carry)
packets_between-append c from mid to carry first second =
    rw (slice_range-append from mid to (contents_of c).packets first second)
    (seen_packets-append carry (slice_range (contents_of c).packets from mid) (slice_range (contents_of c).packets mid to))

pub length-packets_between : (c : CaptureView) (from to carry : ℕ) → from ≤ to → to ≤ length (contents_of c).packets → length (packets_between c from to carry) ≡ to - from
length-packets_between c from to carry ordered within =
    let ps : List Packet = (contents_of c).packets in
    length-seen_packets carry (slice_range ps from to) ∙ omega (arith, length-take (to - from) (drop from ps), length-drop from ps)

pub segments_between-append : (c : CaptureView) (from mid to carry : ℕ) → from ≤ mid → mid ≤ to → to ≤ length (contents_of c).packets
    → segments_between c from to carry ≡ segments_between c from mid carry ++ segments_between c mid to (carried c from mid carry)
segments_between-append c from mid to carry first second within =
    let len : length (packets_between c from mid carry) ≡ mid - from = length-packets_between c from mid carry first (omega arith) in
    let place : from + length (packets_between c from mid carry) ≡ mid = omega arith in
    rw (packets_between-append c from mid to carry first second, indexed_segments-append from (packets_between c from mid carry) (packets_between c mid to (carried c from mid carry)), place) refl

pub joins_agree : JoinsAgree
unfolding joined_partial partial_in
joins_agree c from mid to carry first second within =
    let next = carried c from mid carry in
    rw (
      segments_between-append c from mid to carry first second (omega (arith, length-map c.records (packet_of c.bytes))),
      map-append (kept_in c) (segments_between c from mid carry) (segments_between c mid to next),
      packets_between-append c from mid to carry first second,
      counts_of-append (packets_between c from mid carry) (packets_between c mid to next),
    ) refl

-- ---- one packet more

pub packets_between-more : (c : CaptureView) (from i carry : ℕ) (d : Packet) → from ≤ i → i < length (contents_of c).packets
    → packets_between c from (i + 1) carry ≡ packets_between c from i carry ++ seen_packet (max (carried c from i carry) (get_or (contents_of c).packets i d).stamp, get_or (contents_of c).packets i d) ∷ []
packets_between-more c from i carry d ordered within =
    let p : Packet = get_or (contents_of c).packets i d in
    let last : packets_between c i (i + 1) (carried c from i carry) ≡ seen_packet (max (carried c from i carry) p.stamp, p) ∷ [] =
    rw (slice_range-one i (contents_of c).packets d within, seen_packets-cons (carried c from i carry) p [], seen_packets-nil (max (carried c from i carry) p.stamp)) refl in
    packets_between-append c from i (i + 1) carry ordered (omega arith) ∙ ap (λ (ps : List SeenPacket). packets_between c from i carry ++ ps) last

greatest-append : (ns ms : List ℕ) → greatest (ns ++ ms) ≡ max (greatest ns) (greatest ms)
greatest-append [] ms = omega arith
greatest-append (n ∷ ns) ms = rw (greatest-append ns ms) (omega arith)

-- the greatest stamp before a record is that before an earlier one, or of the stamps between
pub carried-append : (c : CaptureView) (from mid to carry : ℕ) → from ≤ mid → mid ≤ to → carried c from to carry ≡ max (carried c from mid carry) (greatest (stamps_between c mid to))
carried-append c from mid to carry first second =
    let ps : List Packet = (contents_of c).packets in
    let stamps : stamps_between c from to ≡ stamps_between c from mid ++ stamps_between c mid to =
    rw (slice_range-append from mid to ps first second) (map-append (λ (p : Packet). p.stamp) (slice_range ps from mid) (slice_range ps mid to)) in
    rw (stamps, greatest-append (stamps_between c from mid) (stamps_between c mid to)) (omega arith)

pub carried-more : (c : CaptureView) (from i carry : ℕ) (d : Packet) → from ≤ i → i < length (contents_of c).packets
    → carried c from (i + 1) carry ≡ max (carried c from i carry) (get_or (contents_of c).packets i d).stamp
carried-more c from i carry d ordered within =
    let one : stamps_between c i (i + 1) ≡ (get_or (contents_of c).packets i d).stamp ∷ [] = rw (slice_range-one i (contents_of c).packets d within) refl in
    carried-append c from i (i + 1) carry ordered (omega arith) ∙ rw one (omega arith)
