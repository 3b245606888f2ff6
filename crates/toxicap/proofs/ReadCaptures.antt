-- A capture that was read: its ticks, by the magic number, and its connections, whose numbers fit their fields and whose ends differ.
use Rattle.std.proofs.Common.{ℕ, Bool, List, [], ◌∷◌, ◌++◌, drop, filter, ◌≡◌, true, false, ◌||◌, not, nat_lt, ◌==◌, length, Option, Some, None, Ok, Err, inl}
use Rattle.std.proofs.Common.{inr, sym, ap, ◌∙◌, if◌then◌else◌, ◌<◌, ◌+◌, ◌^◌, map, find, option_map, unwrap_or, refl, subst, arith}
use Rattle.std.specs.Prelude.{◌⊎◌}
use Rattle.std.proofs.lemmas.List.Elements.{All-from_recursion, recursion_from_All, All-append, All-take, All-drop, All-filter}
use Rattle.pcap_records.specs.declared.fault.CaptureFault.TheVariants.{CaptureTooLong}
use Rattle.toxicap.specs.{AllByRecursion, prefix_len, take_while, enumerate_from, zip, flat_map, filter_map, cons_option, option_or, ShortHeader, BadVersion}
use Rattle.toxicap.specs.{BadLink, Order, Big, Little, Unit, Micros, Nanos, microseconds, nanoseconds, ticks_of, instants, Heading, Reading, capture_limit}
use Rattle.toxicap.specs.{file_header_len, number_in, magic, nanosecond_magic, heading_by, magic_heading, checked_heading, file_heading, reading, Packet}
use Rattle.toxicap.specs.{ReadingsSplit, RawRecord, Splits, raw_bytes, packet_of_raw, FrameClass, segment, frame_class, segment_fields, FieldsFit, SegmentsFit}
use Rattle.toxicap.specs.{TimedSegment, IndexedSegment, is_segment, indexed_segment, indexed_segments, seen_packet, seen_packets, Connection, begins_in}
use Rattle.toxicap.specs.{beginnings, later_members, connection_of, connections, server_base, effective_members, is_answer, is_reset, members_of, server_of}
use Rattle.toxicap.specs.{AreBytes}

-- ---- what holds of each element of a list, by recursion on the list

module _ {A : Type 0} (P : A → Type 0) where
  pub each_of_both : (xs ys : List A) → AllByRecursion P xs → AllByRecursion P ys → AllByRecursion P (xs ++ ys)
  each_of_both xs ys all more = recursion_from_All P (xs ++ ys) (All-append P xs ys (All-from_recursion P xs all) (All-from_recursion P ys more))

  pub each_on_left : (xs ys : List A) → AllByRecursion P (xs ++ ys) → AllByRecursion P xs
  each_on_left [] ys all = tt
  each_on_left (x ∷ xs) ys all = (all.0, each_on_left xs ys all.1)

  pub each_on_right : (xs ys : List A) → AllByRecursion P (xs ++ ys) → AllByRecursion P ys
  each_on_right [] ys all = all
  each_on_right (x ∷ xs) ys all = each_on_right xs ys all.1

  pub each_dropped : (n : ℕ) (xs : List A) → AllByRecursion P xs → AllByRecursion P (drop n xs)
  each_dropped n xs all = recursion_from_All P (drop n xs) (All-drop P n xs (All-from_recursion P xs all))

  pub each_filtered : (test : A → Bool) (xs : List A) → AllByRecursion P xs → AllByRecursion P (filter test xs)
  each_filtered test xs all = recursion_from_All P (filter test xs) (All-filter test P xs (All-from_recursion P xs all))

  pub each_taken : (test : A → Bool) (xs : List A) → AllByRecursion P xs → AllByRecursion P (take_while test xs)
  each_taken test xs all = recursion_from_All P (take_while test xs) (All-take P (prefix_len test xs) xs (All-from_recursion P xs all))

-- ---- ticks

checked_is : (told : Option Heading) (bytes : List ℕ) (h : Heading) → checked_heading told bytes ≡ Ok h → told ≡ Some h
checked_is None bytes h is = absurd cc
checked_is (Some x) bytes h is =
    by (not (number_in x.order 2 (drop 4 bytes) == 2) || not (number_in x.order 2 (drop 6 bytes) == 4)) (not (number_in x.order 4 (drop 20 bytes) == 1)) is
  where
    by : (v l : Bool) → (if v then Err BadVersion else (if l then Err BadLink else Ok x)) ≡ Ok h → Some x ≡ Some h
    by true l is = absurd cc
    by false true is = absurd cc
    by false false is = let same : x ≡ h = cc in ap Some same

heading_is : (bytes : List ℕ) (h : Heading) → file_heading bytes ≡ Ok h → magic_heading bytes ≡ Some h
unfolding file_heading
heading_is bytes h is = by (nat_lt capture_limit (length bytes)) (nat_lt (length bytes) file_header_len) is
  where
    by : (over short : Bool) → (if over then Err CaptureTooLong else (if short then Err ShortHeader else checked_heading (magic_heading bytes) bytes)) ≡ Ok h
        → magic_heading bytes ≡ Some h
    by true short is = absurd cc
    by false true is = absurd cc
    by false false is = checked_is (magic_heading bytes) bytes h is

reading_heading : ReadingsSplit → (bytes : List ℕ) (r : Reading) → reading bytes ≡ Ok r
    → (h : Heading) × (magic_heading bytes ≡ Some h) × (r.contents.ticks ≡ h.ticks)
reading_heading readings_split bytes r is =
    let split = readings_split bytes r is in
    (split.0, heading_is bytes split.0 split.3.0, ap (λ (x : Reading). x.contents.ticks) split.3.3)

heading_in : ℕ → Order → Heading
heading_in ticks o = record { order = o; ticks = ticks }

ticks_by : (number ticks : ℕ) (bytes : List ℕ) (h : Heading) → heading_by number ticks bytes ≡ Some h → h.ticks ≡ ticks
unfolding heading_in
ticks_by number ticks bytes h is = by (number_in Big 4 bytes == number) (number_in Little 4 bytes == number) is
  where
    by : (big little : Bool) → (if big then Some (heading_in ticks Big) else (if little then Some (heading_in ticks Little) else None)) ≡ Some h → h.ticks ≡ ticks
    by true little is = let same : heading_in ticks Big ≡ h = cc in sym (ap (λ (x : Heading). x.ticks) same)
    by false true is = let same : heading_in ticks Little ≡ h = cc in sym (ap (λ (x : Heading). x.ticks) same)
    by false false is = absurd cc

first_or_second : (first second : Option Heading) (h : Heading) → option_or first second ≡ Some h → (first ≡ Some h) ⊎ (second ≡ Some h)
first_or_second (Some x) second h is = inl is
first_or_second None second h is = inr is

pub reading_unit : ReadingsSplit → (bytes : List ℕ) (r : Reading) → reading bytes ≡ Ok r → (unit : Unit) × (r.contents.ticks ≡ ticks_of unit)
reading_unit readings_split bytes r is =
    let read = reading_heading readings_split bytes r is in
    by read.0 read.2 (first_or_second (heading_by magic microseconds bytes) (heading_by nanosecond_magic nanoseconds bytes) read.0 read.1)
  where
    by : (h : Heading) → r.contents.ticks ≡ h.ticks → (heading_by magic microseconds bytes ≡ Some h) ⊎ (heading_by nanosecond_magic nanoseconds bytes ≡ Some h)
        → (unit : Unit) × (r.contents.ticks ≡ ticks_of unit)
    by h counted (inl told) = (Micros, counted ∙ ticks_by magic microseconds bytes h told)
    by h counted (inr told) = (Nanos, counted ∙ ticks_by nanosecond_magic nanoseconds bytes h told)

-- ---- connections

abbrev pub HasBytes : Packet → Type 0
HasBytes p = AreBytes p.bytes

raws_have : (h : Heading) (raws : List RawRecord) → AreBytes (flat_map raw_bytes raws) → AllByRecursion HasBytes (map (packet_of_raw h) raws)
raws_have h [] are = tt
raws_have h (p ∷ raws) are =
    let first : AreBytes (raw_bytes p) = each_on_left (λ x. x < 256) (raw_bytes p) (flat_map raw_bytes raws) are in
    (each_on_right (λ x. x < 256) p.header p.packet first, raws_have h raws (each_on_right (λ x. x < 256) (raw_bytes p) (flat_map raw_bytes raws) are))

pub packets_have : ReadingsSplit → (bytes : List ℕ) (r : Reading) → reading bytes ≡ Ok r → AreBytes bytes → AllByRecursion HasBytes r.contents.packets
packets_have readings_split bytes r is are =
    let split = readings_split bytes r is in
    let raws : List RawRecord = split.1 in
    let whole : Splits split.0 (drop 24 bytes) raws split.2 = split.3.1 in
    let records : AreBytes (flat_map raw_bytes raws ++ split.2) = rw whole.whole at (each_dropped (λ x. x < 256) 24 bytes are) in
    subst (λ ps. AllByRecursion HasBytes ps) (sym (ap (λ (x : Reading). x.contents.packets) split.3.3))
    (raws_have split.0 raws (each_on_left (λ x. x < 256) (flat_map raw_bytes raws) split.2 records))

abbrev HasSoundFields : IndexedSegment → Type 0
HasSoundFields s = FieldsFit s.timed.fields

abbrev pub IsSoundTimed : TimedSegment → Type 0
IsSoundTimed t = FieldsFit t.fields

class_is : (k : FrameClass) → is_segment k ≡ true → k ≡ segment
class_is segment is = refl
class_is k is = absurd cc

segments_are_sound : SegmentsFit → (n : ℕ) (ts : List ℕ) (ps : List Packet) → AllByRecursion HasBytes ps
    → AllByRecursion HasSoundFields (filter_map indexed_segment (enumerate_from n (map seen_packet (zip ts ps))))
segments_are_sound fit n [] ps have = tt
segments_are_sound fit n (t ∷ ts) [] have = tt
segments_are_sound fit n (t ∷ ts) (p ∷ ps) have = by (is_segment (frame_class p.bytes)) refl (segments_are_sound fit (n + 1) ts ps have.1)
  where
    rest : List IndexedSegment
    rest = filter_map indexed_segment (enumerate_from (n + 1) (map seen_packet (zip ts ps)))

    by : (b : Bool) → is_segment (frame_class p.bytes) ≡ b → AllByRecursion HasSoundFields rest
        → AllByRecursion HasSoundFields (cons_option (if b then Some (record { index = n; timed = record { at = t; fields = segment_fields p.bytes } }) else None) rest)
    by true is all = (fit p.bytes have.0 (class_is (frame_class p.bytes) is), all)
    by false is all = all

pub record IsSoundConnection (c : Connection) : Type 0 where
  pub opening : FieldsFit c.opening.fields
  pub later : AllByRecursion IsSoundTimed c.later

timed_are : (segs : List IndexedSegment) → AllByRecursion HasSoundFields segs → AllByRecursion IsSoundTimed (map (λ s. s.timed) segs)
timed_are [] all = tt
timed_are (s ∷ segs) all = (all.0, timed_are segs all.1)

numbered_are : (segs : List IndexedSegment) (n : ℕ) (bs : List IndexedSegment) → AllByRecursion HasSoundFields segs → AllByRecursion HasSoundFields bs → AllByRecursion IsSoundConnection (map (connection_of segs) (enumerate_from n bs))
numbered_are segs n [] sound all = tt
numbered_are segs n (b ∷ bs) sound all =
    (record { opening = all.0; later = timed_are (later_members segs b) (each_filtered HasSoundFields _ segs sound) }, numbered_are segs (n + 1) bs sound all.1)

pub connections_are : SegmentsFit → (packets : List Packet) → AllByRecursion HasBytes packets → AllByRecursion IsSoundConnection (connections (indexed_segments 0 (seen_packets 0 packets)))
unfolding connections beginnings indexed_segments seen_packets
connections_are fit packets have =
    let segs : List IndexedSegment = indexed_segments 0 (seen_packets 0 packets) in
    let sound : AllByRecursion HasSoundFields segs = segments_are_sound fit 0 (instants 0 (map (λ p. p.stamp) packets)) packets have in
    numbered_are segs 0 (beginnings segs) sound (each_filtered HasSoundFields (begins_in segs) segs sound)

-- the server's number, or 0
found_fits : (q : TimedSegment → Bool) (ms : List TimedSegment) → AllByRecursion IsSoundTimed ms → unwrap_or (option_map (λ m. m.fields.seq) (find q ms)) 0 < 2 ^ 32
found_fits q [] all = omega arith
found_fits q (m ∷ ms) all = by (q m) (found_fits q ms all.1)
  where
    by : (b : Bool) → unwrap_or (option_map (λ m. m.fields.seq) (find q ms)) 0 < 2 ^ 32 → unwrap_or (option_map (λ m. m.fields.seq) (if b then Some m else find q ms)) 0 < 2 ^ 32
    by true rest = all.0.seq
    by false rest = rest

pub server_base_fits : (c : Connection) → IsSoundConnection c → unwrap_or (server_base c) 0 < 2 ^ 32
unfolding server_base
server_base_fits c is =
    found_fits (is_answer (server_of c)) (effective_members (members_of c)) (each_taken IsSoundTimed (λ m. not (is_reset m)) (members_of c) (is.opening, is.later))
