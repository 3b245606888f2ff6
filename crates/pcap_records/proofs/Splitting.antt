-- The reading against the grammar.
use Rattle.std.proofs.Common.{◌≡◌, ◌≤◌, ◌⊎◌, inl, inr, ⊎_elim, ℕ, zero, suc, ◌+◌, ◌-◌, Bool, true, false, nat_lt, if◌then◌else◌, List, [], ◌∷◌, ◌++◌, length, map, take, drop, refl, sym, ◌∙◌, arith, length-drop, length-append, length-take, Result, Ok, Err}
use Rattle.std.specs.List.{flat_map, AllByRecursion}
use Rattle.std.proofs.lemmas.List.{append-nil, append_assoc, take-append-drop, drop-drop, drop_at, take_at, drop-append-le, drop-take}
use Rattle.std.proofs.lemmas.Bool.Decides.{nat_tests}
use Rattle.std.proofs.lemmas.Bool.{ltb-true, ltb-false}
use Rattle.byteorder.specs.Numbers.{big_from-take, little_from-take, big_from-append, little_from-append}
use Rattle.pcap_records.specs.declared.heading.Order.{Order}
use Rattle.pcap_records.specs.declared.heading.Order.TheVariants.{Big, Little}
use Rattle.pcap_records.specs.declared.fault.CaptureFault.{CaptureFault}
use Rattle.pcap_records.specs.declared.fault.CaptureFault.TheVariants.{RecordTooLong}
use Rattle.pcap_records.specs.Reading.{Heading, Packet, Contents, Reading, NextRecord, whole, torn, too_long, number_in, next_record, first_packet, packet_len, packet_limit, file_heading, records_after, reading}
use Rattle.pcap_records.specs.Grammar.{RawRecord, IsRawRecord, IsRest, AnnouncesTooMuch, Splits, raw_bytes, packet_of_raw, ReadingsSplit, SplitsAreRead, RefusalsSplit, SplitsAreRefused}
use Rattle.pcap_records.proofs.Passes.{records_after-next, listed_before, listed-whole, listed_before-none, reading-file_heading, reading-bad_header}

number_in-take : (o : Order) (n m : ℕ) (bytes : List ℕ) → n ≤ m → number_in o n (take m bytes) ≡ number_in o n bytes
number_in-take Big n m bytes fits = big_from-take 0 n m bytes (omega arith)
number_in-take Little n m bytes fits = little_from-take 0 n m bytes (omega arith)

pub number_in-append : (o : Order) (n : ℕ) (xs ys : List ℕ) → n ≤ length xs → number_in o n (xs ++ ys) ≡ number_in o n xs
number_in-append Big n xs ys fits = big_from-append n xs ys fits
number_in-append Little n xs ys fits = little_from-append n xs ys fits

abbrev pub NextSays : Heading → List ℕ → NextRecord → Type 0
NextSays h bytes torn = IsRest h bytes
NextSays h bytes too_long = AnnouncesTooMuch h bytes
NextSays h bytes whole = (16 ≤ length bytes) × (packet_len h bytes ≤ packet_limit) × (packet_len h bytes ≤ length bytes - 16)

by_tests : (a b c : Bool) (h : Heading) (bytes : List ℕ) → nat_lt (length bytes) 16 ≡ a → nat_lt packet_limit (packet_len h bytes) ≡ b → nat_lt (length bytes - 16) (packet_len h bytes) ≡ c
    → NextSays h bytes (if a then torn else (if b then too_long else (if c then torn else whole)))
by_tests true b c h bytes short long cut = inl (ltb-true _ _ short)
by_tests false true c h bytes short long cut = (ltb-false _ _ short, ltb-true _ _ long)
by_tests false false true h bytes short long cut = inr (ltb-false _ _ long, omega (arith, ltb-true _ _ cut, ltb-false _ _ short))
by_tests false false false h bytes short long cut = (ltb-false _ _ short, ltb-false _ _ long, ltb-false _ _ cut)

pub next_says : (h : Heading) (bytes : List ℕ) → NextSays h bytes (next_record h bytes)
unfolding next_record
next_says h bytes = by_tests (nat_lt (length bytes) 16) (nat_lt packet_limit (packet_len h bytes)) (nat_lt (length bytes - 16) (packet_len h bytes)) h bytes refl refl refl

pub says_next : (h : Heading) (bytes : List ℕ) (f : NextRecord) → NextSays h bytes f → next_record h bytes ≡ f
unfolding next_record
says_next h bytes torn (inl short) = grind (arith, nat_tests)
says_next h bytes torn (inr cut) = grind (arith, nat_tests)
says_next h bytes too_long says = grind (arith, nat_tests)
says_next h bytes whole says = grind (arith, nat_tests)

pub record Split (h : Heading) (bytes : List ℕ) : Type 0 where
  pub raws : List RawRecord
  pub rest : List ℕ
  pub splits : Splits h bytes raws rest
  pub ends : IsRest h rest ⊎ AnnouncesTooMuch h rest

-- the record with which the bytes begin, as the grammar has it
first_raw : Heading → List ℕ → RawRecord
first_raw h bytes = record { header = take 16 bytes; packet = take (packet_len h bytes) (drop 16 bytes) }

first_raw-is : (h : Heading) (bytes : List ℕ) → NextSays h bytes whole → IsRawRecord h (first_raw h bytes)
unfolding first_raw
first_raw-is h bytes says =
    let len : ℕ = packet_len h bytes in
    let announced : packet_len h (take 16 bytes) ≡ len = rw (drop-take 8 8 bytes) (number_in-take h.order 4 8 (drop 8 bytes) (omega arith)) in
    let held : length (take len (drop 16 bytes)) ≡ len = omega (arith, length-take len (drop 16 bytes), length-drop 16 bytes, says.2) in
    record {
      whole_header = omega (arith, length-take 16 bytes, says.0);
      announced = announced ∙ sym held;
      limited = rw held says.1;
    }

-- a whole record, and a split of what follows it
split_more : (h : Heading) (bytes : List ℕ) → NextSays h bytes whole → Split h (drop (16 + packet_len h bytes) bytes) → Split h bytes
unfolding first_raw
split_more h bytes says after = record {
  raws = first_raw h bytes ∷ after.raws;
  rest = after.rest;
  splits = record {
    whole =
        let len : ℕ = packet_len h bytes in
        let apart : (take 16 bytes ++ take len (drop 16 bytes)) ++ drop (16 + len) bytes ≡ bytes =
        rw (← drop-drop len 16 bytes, append_assoc (take 16 bytes) (take len (drop 16 bytes)) (drop len (drop 16 bytes)), take-append-drop len (drop 16 bytes)) (take-append-drop 16 bytes) in
        let more = after.splits.whole in
        sym apart ∙ rw (more, append_assoc (take 16 bytes ++ take len (drop 16 bytes)) (flat_map raw_bytes after.raws) after.rest) refl;
    each = (first_raw-is h bytes says, after.splits.each);
  };
  ends = after.ends;
}

split_by : (f : NextRecord) (n : ℕ) (h : Heading) (bytes : List ℕ) → next_record h bytes ≡ f → NextSays h bytes f → length bytes ≤ suc n → ((rest : List ℕ) → length rest ≤ n → Split h rest) → Split h bytes
split_by torn n h bytes is says fits more = record { raws = []; rest = bytes; splits = record { whole = refl; each = tt }; ends = inl says }
split_by too_long n h bytes is says fits more = record { raws = []; rest = bytes; splits = record { whole = refl; each = tt }; ends = inr says }
split_by whole n h bytes is says fits more =
    split_more h bytes says (more (drop (16 + packet_len h bytes) bytes) (omega (arith, length-drop (16 + packet_len h bytes) bytes, says.0)))

split_within : (n : ℕ) (h : Heading) (bytes : List ℕ) → length bytes ≤ n → Split h bytes
split_within zero h bytes fits = record { raws = []; rest = bytes; splits = record { whole = refl; each = tt }; ends = inl (inl (omega arith)) }
split_within (suc n) h bytes fits = split_by (next_record h bytes) n h bytes refl (next_says h bytes) fits (λ rest less. split_within n h rest less)

pub split_of : (h : Heading) (bytes : List ℕ) → Split h bytes
split_of h bytes = split_within (length bytes) h bytes (omega arith)

abbrev before : RawRecord → List ℕ → List ℕ
before p after = (p.header ++ p.packet) ++ after

number_of_raw : (h : Heading) (p : RawRecord) (after : List ℕ) (n at : ℕ) → IsRawRecord h p → n + at ≤ 16 → number_in h.order n (drop at (before p after)) ≡ number_in h.order n (drop at p.header)
number_of_raw h p after n at is within =
    let fits : at ≤ length p.header = omega (arith, is.whole_header) in
    rw (append_assoc p.header p.packet after, drop-append-le at p.header (p.packet ++ after) fits)
    (number_in-append h.order n (drop at p.header) (p.packet ++ after) (omega (arith, length-drop at p.header, is.whole_header)))

len_of_raw : (h : Heading) (p : RawRecord) (after : List ℕ) → IsRawRecord h p → packet_len h (before p after) ≡ length p.packet
len_of_raw h p after is = number_of_raw h p after 4 8 is (omega arith) ∙ is.announced

packet_of_next : (h : Heading) (p : RawRecord) (after : List ℕ) → IsRawRecord h p → first_packet h (before p after) ≡ packet_of_raw h p
packet_of_next h p after is =
    rw (number_of_raw h p after 4 0 is (omega arith), number_of_raw h p after 4 4 is (omega arith), len_of_raw h p after is, append_assoc p.header p.packet after, drop_at p.header (p.packet ++ after) 16 is.whole_header, take_at p.packet after (length p.packet) refl) refl

after_raw : (h : Heading) (p : RawRecord) (after : List ℕ) → IsRawRecord h p → drop (16 + packet_len h (before p after)) (before p after) ≡ after
after_raw h p after is =
    drop_at (p.header ++ p.packet) after (16 + packet_len h (before p after)) (omega (arith, length-append p.header p.packet, is.whole_header, len_of_raw h p after is))

next_of_raw : (h : Heading) (p : RawRecord) (after : List ℕ) → IsRawRecord h p → next_record h (before p after) ≡ whole
next_of_raw h p after is =
    let len = len_of_raw h p after is in
    let all : length (before p after) ≡ 16 + length p.packet + length after = omega (arith, length-append (p.header ++ p.packet) after, length-append p.header p.packet, is.whole_header) in
    says_next h (before p after) whole (omega arith, omega (arith, is.limited), omega arith)

listed_before-twice : (p : Packet) (ps : List Packet) (read : Result Contents CaptureFault) → listed_before (p ∷ []) (listed_before ps read) ≡ listed_before (p ∷ ps) read
listed_before-twice p ps (Ok c) = refl
listed_before-twice p ps (Err e) = refl

read_raw : (h : Heading) (p : RawRecord) (after : List ℕ) (k : ℕ) → IsRawRecord h p → records_after 0 h k (before p after) ≡ listed_before (packet_of_raw h p ∷ []) (records_after 0 h (k + 1) after)
read_raw h p after k is =
    let one = listed-whole h [] k (before p after) (next_of_raw h p after is) in
    sym (listed_before-none (records_after 0 h k (before p after))) ∙ (rw (packet_of_next h p after is, after_raw h p after is) at one)

pub read_splits : (h : Heading) (raws : List RawRecord) (rest : List ℕ) (k : ℕ) → AllByRecursion (IsRawRecord h) raws
    → records_after 0 h k (flat_map raw_bytes raws ++ rest) ≡ listed_before (map (packet_of_raw h) raws) (records_after 0 h (k + length raws) rest)
read_splits h [] rest k each =
    let none : k + 0 ≡ k = omega arith in
    rw none (sym (listed_before-none (records_after 0 h k rest)))
read_splits h (p ∷ raws) rest k each =
    let counts : k + suc (length raws) ≡ k + 1 + length raws = omega arith in
    rw (append_assoc (raw_bytes p) (flat_map raw_bytes raws) rest, read_raw h p (flat_map raw_bytes raws ++ rest) k each.0, read_splits h raws rest (k + 1) each.1, counts)
    (listed_before-twice (packet_of_raw h p) (map (packet_of_raw h) raws) (records_after 0 h (k + 1 + length raws) rest))

read_rest : (h : Heading) (k : ℕ) (rest : List ℕ) → IsRest h rest → records_after 0 h k rest ≡ Ok (record { ticks = h.ticks; packets = []; rest = length rest })
read_rest h k rest ends = rw (records_after-next h k rest, says_next h rest torn ends) refl

read_too_long : (h : Heading) (k : ℕ) (rest : List ℕ) → AnnouncesTooMuch h rest → records_after 0 h k rest ≡ Err (RecordTooLong k)
read_too_long h k rest ends = rw (records_after-next h k rest, says_next h rest too_long ends) refl

pub splits_are_read : SplitsAreRead
splits_are_read bytes h raws rest is splits ends =
    rw (reading-file_heading bytes h is, splits.whole, read_splits h raws rest 0 splits.each, read_rest h (0 + length raws) rest ends, append-nil (map (packet_of_raw h) raws)) refl

pub splits_are_refused : SplitsAreRefused
splits_are_refused bytes h raws rest is splits ends =
    let all : 0 + length raws ≡ length raws = omega arith in
    rw (reading-file_heading bytes h is, splits.whole, read_splits h raws rest 0 splits.each, all, read_too_long h (length raws) rest ends) refl

headed : (bytes : List ℕ) (r : Reading) (read : Result Heading CaptureFault) → file_heading bytes ≡ read → reading bytes ≡ Ok r → (h : Heading) × (file_heading bytes ≡ Ok h)
headed bytes r (Ok h) is is_read = (h, is)
headed bytes r (Err e) is is_read = absurd (let no = reading-bad_header bytes e is in cc)

pub readings_split : ReadingsSplit
readings_split bytes r is_read =
    let head = headed bytes r (file_heading bytes) refl is_read in
    let split = split_of head.0 (drop 24 bytes) in
    ⊎_elim
    (λ ends. (head.0, split.raws, split.rest, (head.1, split.splits, ends, (let same = splits_are_read bytes head.0 split.raws split.rest head.1 split.splits ends in cc))))
    (λ ends. absurd (let no = splits_are_refused bytes head.0 split.raws split.rest head.1 split.splits ends in cc))
    split.ends

pub refusals_split : RefusalsSplit
refusals_split bytes h k is refused =
    let split = split_of h (drop 24 bytes) in
    ⊎_elim
    (λ ends. absurd (let no = splits_are_read bytes h split.raws split.rest is split.splits ends in cc))
    (λ ends. (split.raws, split.rest, ((let same = splits_are_refused bytes h split.raws split.rest is split.splits ends in cc), split.splits, ends)))
    split.ends
