-- A file's heads, read on from some place of it, whatever bytes follow.
use Rattle.std.proofs.Common.{◌≡◌, ◌≤◌, ◌<◌, ℕ, suc, ◌+◌, ◌-◌, List, [], ◌∷◌, ◌++◌, length, map, take, drop, true, false, nat_lt, refl, ap, ap₂, sym, subst, ◌∙◌, arith, length-drop, length-append, length-take, inl, inr, Result, Ok, Err}
use Rattle.std.proofs.lemmas.List.{append-nil, append_assoc, drop-append-le, drop-drop, take-append-le, length_push}
use Rattle.std.specs.Option.{IfSome}
use Rattle.std.proofs.lemmas.Bool.Decides.{nat_tests}
use Rattle.pcap_records.specs.declared.heading.Order.{Order}
use Rattle.pcap_records.specs.declared.fault.CaptureFault.{CaptureFault}
use Rattle.pcap_records.specs.declared.fault.CaptureFault.TheVariants.{CaptureTooLong, ShortHeader, BadMagic, BadVersion, BadLink, RecordTooLong, Memory}
use Rattle.pcap_records.specs.CaptureView.{capture_refusal, heading_of}
use Rattle.pcap_records.specs.Reading.{Heading, Packet, Contents, whole, torn, too_long, next_record, packet_len, stamp_of, first_packet, contents_with_packet, records_after, file_heading, reading_in, capture_limit}
use Rattle.pcap_records.specs.Heads.{Finding, Head, HeadReaderView, Heads, Takes, head_of, heads_in, heads_then, no_header, some_heads, a_fault, read_on, IsSpent}
use Rattle.pcap_records.specs.HeadLists.{finding}
use Rattle.pcap_records.specs.Instants.{ticks_of}
use Rattle.pcap_records.specs.declared.heads.State.{State}
use Rattle.pcap_records.specs.declared.heads.State.TheVariants.{Header, Records, Refused}
use Rattle.pcap_records.specs.declared.heading.Heading as code
use Rattle.pcap_records.proofs.FileHeaders.{heading_is, heading_within}
use Rattle.pcap_records.proofs.Passes.{records_after-next, reading-file_heading, reading-bad_header}
use Rattle.pcap_records.proofs.Splitting.{NextSays, next_says, says_next, number_in-append}

packet_len-append : (h : Heading) (xs more : List ℕ) → 16 ≤ length xs → packet_len h (xs ++ more) ≡ packet_len h xs
packet_len-append h xs more long = rw (drop-append-le 8 xs more (omega arith)) (number_in-append h.order 4 (drop 8 xs) more (omega (arith, length-drop 8 xs)))

stamp_of-append : (h : Heading) (xs more : List ℕ) → 16 ≤ length xs → stamp_of h (xs ++ more) ≡ stamp_of h xs
stamp_of-append h xs more long =
    rw (number_in-append h.order 4 xs more (omega arith), drop-append-le 4 xs more (omega arith), number_in-append h.order 4 (drop 4 xs) more (omega (arith, length-drop 4 xs))) refl

whole_says : (h : Heading) (xs : List ℕ) → next_record h xs ≡ whole → NextSays h xs whole
whole_says h xs is = subst (NextSays h xs) is (next_says h xs)

too_long_says : (h : Heading) (xs : List ℕ) → next_record h xs ≡ too_long → NextSays h xs too_long
too_long_says h xs is = subst (NextSays h xs) is (next_says h xs)

next_whole-append : (h : Heading) (xs more : List ℕ) → next_record h xs ≡ whole → next_record h (xs ++ more) ≡ whole
next_whole-append h xs more is =
    let says = whole_says h xs is in
    let same = packet_len-append h xs more says.0 in
    says_next h (xs ++ more) whole (omega (arith, length-append xs more, says.0), rw same says.1, rw same (omega (arith, length-append xs more, says.2)))

next_too_long-append : (h : Heading) (xs more : List ℕ) → next_record h xs ≡ too_long → next_record h (xs ++ more) ≡ too_long
next_too_long-append h xs more is =
    let says = too_long_says h xs is in
    says_next h (xs ++ more) too_long (omega (arith, length-append xs more, says.0), rw (packet_len-append h xs more says.0) says.1)

first_packet-append : (h : Heading) (xs more : List ℕ) → next_record h xs ≡ whole → first_packet h (xs ++ more) ≡ first_packet h xs
first_packet-append h xs more is =
    let says = whole_says h xs is in
    rw (stamp_of-append h xs more says.0, packet_len-append h xs more says.0, drop-append-le 16 xs more says.0, take-append-le (packet_len h xs) (drop 16 xs) more (omega (arith, length-drop 16 xs, says.2))) refl

heads_then_past : (heads : List Head) (p : Packet) (after : Result Contents CaptureFault) → heads_then heads (contents_with_packet p after) ≡ heads_then (heads ++ head_of p ∷ []) after
heads_then_past heads p (Ok c) = rw (append_assoc heads (head_of p ∷ []) (map head_of c.packets)) refl
heads_then_past heads p (Err e) = refl

pub read_on-whole : (h : Heading) (heads : List Head) (xs more : List ℕ) → next_record h xs ≡ whole
    → read_on (some_heads h heads) (xs ++ more) ≡ read_on (some_heads h (heads ++ head_of (first_packet h xs) ∷ [])) (drop (16 + packet_len h xs) xs ++ more)
unfolding read_on
read_on-whole h heads xs more is =
    let says = whole_says h xs is in
    let next : suc (length heads) ≡ length (heads ++ head_of (first_packet h xs) ∷ []) = omega (arith, length_push heads (head_of (first_packet h xs))) in
    let step = records_after-next h (length heads) (xs ++ more) in
    let after : ℕ → Result Contents CaptureFault = λ n. records_after 0 h (suc (length heads)) (drop (16 + n) (xs ++ more)) in
    let past : records_after 0 h (length heads) (xs ++ more) ≡ contents_with_packet (first_packet h xs) (after (packet_len h xs)) =
    rw (next_whole-append h xs more is) at step ∙ ap₂ (λ p n. contents_with_packet p (after n)) (first_packet-append h xs more is) (packet_len-append h xs more says.0) in
    ap (heads_then heads) past ∙ heads_then_past heads (first_packet h xs) _
    ∙ ap₂ (λ k left. heads_then (heads ++ head_of (first_packet h xs) ∷ []) (records_after 0 h k left)) next (drop-append-le (16 + packet_len h xs) xs more (omega (arith, says.0, says.2)))

pub read_on-too_long : (h : Heading) (heads : List Head) (xs more : List ℕ) → next_record h xs ≡ too_long → read_on (some_heads h heads) (xs ++ more) ≡ Err (RecordTooLong (length heads))
unfolding read_on
read_on-too_long h heads xs more is = rw (records_after-next h (length heads) (xs ++ more), next_too_long-append h xs more is) refl

pub read_on-torn : (h : Heading) (heads : List Head) (xs : List ℕ) → next_record h xs ≡ torn → read_on (some_heads h heads) xs ≡ Ok (record { ticks = h.ticks; packets = heads; rest = length xs })
unfolding read_on
read_on-torn h heads xs is = rw (records_after-next h (length heads) xs, is, append-nil heads) refl

pub read_on-fault : (fault : CaptureFault) (xs : List ℕ) → read_on (a_fault fault) xs ≡ Err fault
unfolding read_on
read_on-fault fault xs = refl

-- only the first 24 bytes decide about a file header, if the file is not too long
file_heading-first : (xs more : List ℕ) → 24 ≤ length xs → length xs + length more ≤ capture_limit → file_heading (xs ++ more) ≡ file_heading (take 24 xs)
file_heading-first xs more long limited =
    let all = xs ++ more in
    let first : take 24 all ≡ take 24 xs = take-append-le 24 xs more long in
    heading_is all (omega (arith, length-append xs more)) (omega (arith, length-append xs more))
    ∙ sym (heading_within all)
    ∙ sym (heading_is (take 24 all) (omega (arith, length-take 24 all)) (omega (arith, length-take 24 all, length-append xs more)))
    ∙ ap file_heading first

heads_then-none : (o : Order) (read : Result Contents CaptureFault) → heads_in (reading_in o read) ≡ heads_then [] read
heads_then-none o (Ok c) = refl
heads_then-none o (Err fault) = refl

pub read_on-header : (h : Heading) (xs more : List ℕ) → 24 ≤ length xs → length xs + length more ≤ capture_limit → file_heading (take 24 xs) ≡ Ok h
    → read_on no_header (xs ++ more) ≡ read_on (some_heads h []) (drop 24 xs ++ more)
unfolding read_on
read_on-header h xs more long limited is =
    rw (reading-file_heading (xs ++ more) h (file_heading-first xs more long limited ∙ is), drop-append-le 24 xs more long) (heads_then-none h.order _)

pub read_on-bad_header : (fault : CaptureFault) (xs more : List ℕ) → 24 ≤ length xs → length xs + length more ≤ capture_limit → file_heading (take 24 xs) ≡ Err fault
    → read_on no_header (xs ++ more) ≡ Err fault
unfolding read_on
read_on-bad_header fault xs more long limited is = rw (reading-bad_header (xs ++ more) fault (file_heading-first xs more long limited ∙ is)) refl

pub read_on-short : (xs : List ℕ) → length xs < 24 → read_on no_header xs ≡ Err ShortHeader
unfolding read_on file_heading
read_on-short xs short =
    let is_short : nat_lt capture_limit (length xs) ≡ false = grind (arith, nat_tests) in
    let no_header : nat_lt (length xs) 24 ≡ true = grind (arith, nat_tests) in
    rw (reading-bad_header xs ShortHeader (rw (is_short, no_header) refl)) refl

pub takes_last : (seen old new : HeadReaderView) (bytes : List ℕ) → old ≡ seen → Takes old new bytes → seen.taken + length bytes ≤ capture_limit
    → read_on seen.found bytes ≡ read_on new.found (drop (new.taken - old.taken) bytes)
takes_last seen old new bytes is takes limited =
    let same = takes.same [] (omega (arith, ap (λ (v : HeadReaderView). v.taken) is)) in
    let last = rw (append-nil bytes, append-nil (drop (new.taken - old.taken) bytes)) at same in
    ap (λ (v : HeadReaderView). read_on v.found bytes) (sym is) ∙ last

pub takes_of_fault : (taken : ℕ) (fault : CaptureFault) (bytes : List ℕ) → Takes (record { taken = taken; found = a_fault fault }) (record { taken = taken + length bytes; found = a_fault fault }) bytes
takes_of_fault taken fault bytes = record {
  forward = omega arith;
  within = omega arith;
  same = λ more limited. read_on-fault fault _ ∙ sym (read_on-fault fault _);
}

pub takes_too_long : (old : HeadReaderView) (taken : ℕ) (h : Heading) (heads : List Head) (bytes : List ℕ)
    → Takes old (record { taken = taken; found = some_heads h heads }) bytes → next_record h (drop (taken - old.taken) bytes) ≡ too_long
    → Takes old (record { taken = old.taken + length bytes; found = a_fault (RecordTooLong (length heads)) }) bytes
takes_too_long old taken h heads bytes takes is = record {
  forward = omega arith;
  within = omega arith;
  same = λ more limited. takes.same more limited ∙ read_on-too_long h heads (drop (taken - old.taken) bytes) more is ∙ sym (read_on-fault (RecordTooLong (length heads)) _);
}

pub takes_bad_header : (taken : ℕ) (fault : CaptureFault) (bytes : List ℕ) → 24 ≤ length bytes → file_heading (take 24 bytes) ≡ Err fault
    → Takes (record { taken = taken; found = no_header }) (record { taken = taken + length bytes; found = a_fault fault }) bytes
takes_bad_header taken fault bytes long is = record {
  forward = omega arith;
  within = omega arith;
  same = λ more limited. read_on-bad_header fault bytes more long (omega arith) is ∙ sym (read_on-fault fault _);
}

pub left_after_header : (taken new : ℕ) (bytes : List ℕ) → taken + 24 ≤ new → drop (new - (taken + 24)) (drop 24 bytes) ≡ drop (new - taken) bytes
left_after_header taken new bytes past =
    let all : 24 + (new - (taken + 24)) ≡ new - taken = omega arith in
    drop-drop (new - (taken + 24)) 24 bytes ∙ ap (λ n. drop n bytes) all

pub takes_header : (taken : ℕ) (new : HeadReaderView) (h : Heading) (bytes : List ℕ) → 24 ≤ length bytes → file_heading (take 24 bytes) ≡ Ok h
    → Takes (record { taken = taken + 24; found = some_heads h [] }) new (drop 24 bytes) → Takes (record { taken = taken; found = no_header }) new bytes
takes_header taken new h bytes long is takes = record {
  forward = omega (arith, takes.forward);
  within = omega (arith, takes.within, length-drop 24 bytes);
  same = λ more limited.
      read_on-header h bytes more long (omega arith) is
      ∙ takes.same more (omega (arith, length-drop 24 bytes))
      ∙ ap (λ left. read_on new.found (left ++ more)) (left_after_header taken new.taken bytes takes.forward);
}

-- what is left is less than a record may have
torn_short : (h : Heading) (rest : List ℕ) → NextSays h rest torn → length rest < 262160
torn_short h rest (inl short) = omega arith
torn_short h rest (inr cut) = omega (arith, cut.0, cut.1)

pub spent_short : (found : Finding) (rest : List ℕ) → IsSpent found rest → length rest < 262160
spent_short no_header rest spent = omega arith
spent_short (some_heads h heads) rest spent = torn_short h rest (subst (NextSays h rest) spent (next_says h rest))
spent_short (a_fault fault) rest spent = rw spent (omega arith)

pub tells : (fault : CaptureFault) (read : Result Heads CaptureFault) → read ≡ Err fault → IfSome (capture_refusal fault) (λ refused. read ≡ Err refused)
tells CaptureTooLong read is = is
tells ShortHeader read is = is
tells BadMagic read is = is
tells BadVersion read is = is
tells BadLink read is = is
tells (RecordTooLong at) read is = is
tells (Memory e) read is = tt

pub ends_header : (state : State) (heads : List Head) (rest : List ℕ) → state ≡ Header → IsSpent (finding state heads) rest → read_on (finding state heads) rest ≡ Err ShortHeader
ends_header state heads rest is spent = rw is (read_on-short rest (rw is at spent))

pub ends_records : (state : State) (h : code.Heading) (heads : List Head) (rest : List ℕ) (n : ℕ) → state ≡ Records h → IsSpent (finding state heads) rest → n ≡ length rest
    → read_on (finding state heads) rest ≡ Ok (record { ticks = ticks_of h.unit; packets = heads; rest = n })
ends_records state h heads rest n is spent count = rw (is, count) (read_on-torn (heading_of h) heads rest (rw is at spent))

pub ends_refused : (state : State) (fault : CaptureFault) (heads : List Head) (rest : List ℕ) → state ≡ Refused fault → read_on (finding state heads) rest ≡ Err fault
ends_refused state fault heads rest is = rw is (read_on-fault fault rest)
