-- The pass over a file's records, one after another, and the reading that it gives.
use Rattle.std.proofs.Common.{◌≡◌, ℕ, zero, suc, ◌+◌, List, [], ◌∷◌, drop, refl, ap, ◌∙◌, arith, ◌≤◌, ◌-◌, length, length-drop, ◌++◌, Option, Some, None, Result, Ok, Err, IsOk}
use Rattle.pcap_records.specs.Reading.{Heading, next_record, contents_at, packet_len, records_after, whole, packet_limit, stamp_of, Packet, Contents, torn, too_long, contents_with_packet, first_packet, file_heading, reading, reading_in}
use Rattle.std.proofs.lemmas.List.{drop-drop, append-nil, append_assoc}
use Rattle.std.proofs.lemmas.Bool.Decides.{nat_tests}
use Rattle.pcap_records.specs.declared.capture.Record.{Record}
use Rattle.pcap_records.specs.Instants.{horizon}
use Rattle.pcap_records.specs.FoundRecords.{IsRecordAt}
use Rattle.pcap_records.specs.declared.fault.CaptureFault.{CaptureFault}
use Rattle.pcap_records.specs.declared.fault.CaptureFault.TheVariants.{RecordTooLong}
use Rattle.lists.specs.Agreement.{Refuses}

pub records_after-drop : (n : ℕ) (h : Heading) (k : ℕ) (bytes : List ℕ) → records_after n h k bytes ≡ records_after 0 h k (drop n bytes)
unfolding records_after
records_after-drop zero h k bytes = refl
records_after-drop (suc n) h k [] = refl
records_after-drop (suc n) h k (b ∷ bytes) = records_after-drop n h k bytes

-- what is read depends on the next record, and on what is read after it
pub records_after-next : (h : Heading) (k : ℕ) (bytes : List ℕ) → records_after 0 h k bytes ≡ contents_at (next_record h bytes) h k bytes (records_after 0 h (suc k) (drop (16 + packet_len h bytes) bytes))
unfolding records_after next_record
records_after-next h k [] = refl
records_after-next h k (b ∷ bytes) =
    ap (contents_at (next_record h (b ∷ bytes)) h k (b ∷ bytes)) (records_after-drop (15 + packet_len h (b ∷ bytes)) h (suc k) bytes ∙ ap (λ n. records_after 0 h (suc k) (drop n (b ∷ bytes))) by_count)
  where
    by_count : suc (15 + packet_len h (b ∷ bytes)) ≡ 16 + packet_len h (b ∷ bytes)
    by_count = omega arith

next_whole : (h : Heading) (bytes : List ℕ) → 16 ≤ length bytes → packet_len h bytes ≤ packet_limit → packet_len h bytes ≤ length bytes - 16 → next_record h bytes ≡ whole
unfolding next_record
next_whole h bytes long limited held = grind (arith, nat_tests)

pub record_stands_at : (h : Heading) (bytes : List ℕ) (at : ℕ) (r : Record)
    → r.start ≡ at + 16 → r.len ≡ packet_len h (drop at bytes) → r.stamp ≡ stamp_of h (drop at bytes)
    → 16 ≤ length (drop at bytes) → r.len ≤ packet_limit → r.len ≤ length (drop at bytes) - 16 → r.stamp ≤ horizon h.ticks
    → IsRecordAt h bytes at r
record_stands_at h bytes at r start len stamped long limited held within_time = record {
  is_whole = next_whole h (drop at bytes) long (rw len at limited) (rw len at held);
  start = start;
  len = len;
  packet = rw (start, len, stamped, drop-drop 16 at bytes) refl;
  within = record {
    ends = omega (arith, length-drop at bytes);
    limited = limited;
    stamped = within_time;
  };
}

-- after a whole record the file is refused as before
pub refuses-whole : (h : Heading) (k : ℕ) (bytes : List ℕ) (o : Option CaptureFault) → next_record h bytes ≡ whole
    → Refuses o (records_after 0 h (k + 1) (drop (16 + packet_len h bytes) bytes)) → Refuses o (records_after 0 h k bytes)
refuses-whole h k bytes o is_whole refused =
    let next : suc k ≡ k + 1 = omega arith in
    rw (records_after-next h k bytes, is_whole, next) (past o (first_packet h bytes) _ refused)
  where
    past : (o : Option CaptureFault) (p : Packet) (after : Result Contents CaptureFault) → Refuses o after → Refuses o (contents_with_packet p after)
    past (Some e) p (Ok c) is = absurd cc
    past (Some e) p (Err f) is = is
    past None p (Ok c) is = refl
    past None p (Err f) is = is

pub refuses-torn : (h : Heading) (k : ℕ) (bytes : List ℕ) → next_record h bytes ≡ torn → IsOk (records_after 0 h k bytes)
refuses-torn h k bytes is_torn = rw (records_after-next h k bytes, is_torn) refl

pub refuses-too_long : (h : Heading) (k : ℕ) (bytes : List ℕ) → next_record h bytes ≡ too_long → records_after 0 h k bytes ≡ Err (RecordTooLong k)
refuses-too_long h k bytes is_too_long = rw (records_after-next h k bytes, is_too_long) refl

-- what is read after packets that are listed already
abbrev pub listed_before : List Packet → Result Contents CaptureFault → Result Contents CaptureFault
listed_before ps (Ok c) = Ok (record { ticks = c.ticks; packets = ps ++ c.packets; rest = c.rest })
listed_before ps (Err e) = Err e

listed_before_past : (ps : List Packet) (p : Packet) (after : Result Contents CaptureFault) → listed_before ps (contents_with_packet p after) ≡ listed_before (ps ++ p ∷ []) after
listed_before_past ps p (Ok c) = rw (append_assoc ps (p ∷ []) c.packets) refl
listed_before_past ps p (Err e) = refl

pub listed_before-none : (after : Result Contents CaptureFault) → listed_before [] after ≡ after
listed_before-none (Ok c) = refl
listed_before-none (Err e) = refl

pub listed-whole : (h : Heading) (ps : List Packet) (k : ℕ) (bytes : List ℕ) → next_record h bytes ≡ whole
    → listed_before ps (records_after 0 h k bytes) ≡ listed_before (ps ++ first_packet h bytes ∷ []) (records_after 0 h (k + 1) (drop (16 + packet_len h bytes) bytes))
listed-whole h ps k bytes is_whole =
    let next : suc k ≡ k + 1 = omega arith in
    rw (records_after-next h k bytes, is_whole, next) (listed_before_past ps (first_packet h bytes) _)

pub listed-torn : (h : Heading) (ps : List Packet) (k : ℕ) (bytes : List ℕ) → next_record h bytes ≡ torn → listed_before ps (records_after 0 h k bytes) ≡ Ok (record { ticks = h.ticks; packets = ps; rest = length bytes })
listed-torn h ps k bytes is_torn = rw (records_after-next h k bytes, is_torn, append-nil ps) refl

pub listed-too_long : (h : Heading) (ps : List Packet) (k : ℕ) (bytes : List ℕ) → next_record h bytes ≡ too_long → listed_before ps (records_after 0 h k bytes) ≡ Err (RecordTooLong k)
listed-too_long h ps k bytes is_too_long = rw (records_after-next h k bytes, is_too_long) refl

pub refuses-listed : (o : Option CaptureFault) (ps : List Packet) (after : Result Contents CaptureFault) → Refuses o after → Refuses o (listed_before ps after)
refuses-listed (Some e) ps (Ok c) is = absurd cc
refuses-listed (Some e) ps (Err f) is = is
refuses-listed None ps (Ok c) is = refl
refuses-listed None ps (Err f) is = is

pub reading-file_heading : (bytes : List ℕ) (h : Heading) → file_heading bytes ≡ Ok h → reading bytes ≡ reading_in h.order (records_after 0 h 0 (drop 24 bytes))
unfolding reading
reading-file_heading bytes h is = rw is refl

pub reading-bad_header : (bytes : List ℕ) (e : CaptureFault) → file_heading bytes ≡ Err e → reading bytes ≡ Err e
unfolding reading
reading-bad_header bytes e is = rw is refl

pub reading-refused : (o : Option CaptureFault) (bytes : List ℕ) (h : Heading) → file_heading bytes ≡ Ok h → Refuses o (records_after 0 h 0 (drop 24 bytes)) → Refuses o (reading bytes)
reading-refused o bytes h is refused = rw (reading-file_heading bytes h is) (by o (records_after 0 h 0 (drop 24 bytes)) refused)
  where
    by : (o : Option CaptureFault) (read : Result Contents CaptureFault) → Refuses o read → Refuses o (reading_in h.order read)
    by (Some e) (Ok c) is = absurd cc
    by (Some e) (Err f) is = cc
    by None (Ok c) is = refl
    by None (Err f) is = is

pub reading-listed : (bytes : List ℕ) (h : Heading) (c : Contents) → file_heading bytes ≡ Ok h → records_after 0 h 0 (drop 24 bytes) ≡ Ok c → reading bytes ≡ Ok (record { order = h.order; contents = c })
reading-listed bytes h c is read = reading-file_heading bytes h is ∙ rw read refl
