-- The capture with other times: its records in order of time, ties by number, those that are never sent left out.
use Rattle.std.specs.Prelude.{◌≡◌, ℕ, ◌+◌, ◌-◌, ◌*◌, ◌/◌, ◌==◌, ◌^◌, min, max, Bool, ◌&&◌, if◌then◌else◌, List, [], ◌∷◌, ◌++◌, length, map, take, drop, Option, Some, option_map, slice_get, IsPermutation, IsSorted, Ok}
use Rattle.std.specs.List.{enumerate_from, filter_map, range_with_len}
use Rattle.std.specs.Option.{option_map_or}
use Rattle.std.specs.declared.cmp.Ordering.{Ordering}
use Rattle.std.specs.Ordering.{nat_cmp, ordering_then}
use Rattle.byteorder.specs.Endian.{big_bytes, little_bytes}
use Rattle.pcap_records.specs.declared.heading.Order.{Order}
use Rattle.pcap_records.specs.declared.heading.Order.TheVariants.{Big, Little}
use Rattle.pcap_records.specs.CaptureView.{CaptureView, contents_of, reading_of, stamps_between}
use Rattle.pcap_records.specs.Instants.{instants}
use Rattle.pcap_records.specs.Reading.{Packet, reading, file_header_len, record_header_len}
use Rattle.closed_loop.specs.Times.{time_at, instant_in}
use Rattle.closed_loop.specs.declared.stamping.RawCapture.{RawCapture}
use Rattle.closed_loop.specs.declared.stamping.Source.{Source}

-- ---- times

-- the stamps of the records, and their times: the greatest stamp so far
abbrev pub stamps_of : CaptureView → List ℕ
stamps_of c = stamps_between c 0 (length c.records)

abbrev pub recorded_times : CaptureView → List (Option ℕ)
recorded_times c = map (λ t. Some t) (instants 0 (stamps_of c))

-- each record at the time that is its number
abbrev pub numbers : CaptureView → List (Option ℕ)
numbers c = map (λ i. Some i) (range_with_len 0 (length c.records))

-- ---- turns

-- the records that are sent, each with its time
abbrev pub timed_record : ℕ × Option ℕ → Option (ℕ × ℕ)
timed_record (i, t) = option_map (λ at. (at, i)) t

abbrev pub sent_records : List (Option ℕ) → List (ℕ × ℕ)
sent_records times = filter_map timed_record (enumerate_from 0 times)

-- by time, and then by number
abbrev pub turn_cmp : ℕ × ℕ → ℕ × ℕ → Ordering
turn_cmp a b = ordering_then (nat_cmp a.0 b.0) (nat_cmp a.1 b.1)

-- these are the records that are sent, in order
pub record AreInTurn (times : List (Option ℕ)) (turns : List (ℕ × ℕ)) : Type 0 where
  pub each : IsPermutation (sent_records times) turns
  pub sorted : IsSorted turn_cmp turns

-- ---- bytes

-- a record's header and its packet; records stand one after another
abbrev pub record_len : Packet → ℕ
record_len p = record_header_len + length p.bytes

abbrev pub raw_records : List Packet → List ℕ → List (List ℕ)
raw_records [] bytes = []
raw_records (p ∷ ps) bytes = take (record_len p) bytes ∷ raw_records ps (drop (record_len p) bytes)

abbrev pub rest_after : List Packet → List ℕ → List ℕ
rest_after [] bytes = bytes
rest_after (p ∷ ps) bytes = rest_after ps (drop (record_len p) bytes)

abbrev pub field_in : Order → ℕ → List ℕ
field_in Big n = big_bytes 4 n
field_in Little n = little_bytes 4 n

-- the greatest number of a field
abbrev pub most : ℕ
most = 2 ^ 32 - 1

-- seconds, and the ticks over these
abbrev pub stamp_bytes : Order → ℕ → ℕ → List ℕ
stamp_bytes order ticks time =
    let seconds = min (time / ticks) most in
    field_in order seconds ++ field_in order (min (time - seconds * ticks) most)

-- a record keeps its stamp if it keeps its time and that stamp still gives it, after records up to a time
abbrev pub keeps_stamp : ℕ → ℕ → ℕ → ℕ → Bool
keeps_stamp reached time recorded stamp = time == recorded && time == max reached stamp

abbrev pub restamped : CaptureView → ℕ → ℕ → ℕ → ℕ → List ℕ → List ℕ
restamped c reached time recorded stamp raw =
    if keeps_stamp reached time recorded stamp then raw else stamp_bytes c.order c.ticks time ++ drop 8 raw

abbrev pub raws_of : CaptureView → List (List ℕ)
raws_of c = raw_records (contents_of c).packets (drop file_header_len c.bytes)

abbrev pub stamp_at : CaptureView → ℕ → ℕ
stamp_at c i = option_map_or (λ r. r.stamp) (slice_get c.records i) 0

-- record i at a time, after records up to another
abbrev pub record_at : CaptureView → ℕ → ℕ → ℕ → List ℕ
record_at c reached time i =
    option_map_or (restamped c reached time (instant_in (recorded_times c) i) (stamp_at c i)) (slice_get (raws_of c) i) []

-- records at their times, after records up to a time
abbrev pub records_at : CaptureView → ℕ → List (ℕ × ℕ) → List ℕ
records_at c reached [] = []
records_at c reached (turn ∷ turns) = record_at c reached turn.0 turn.1 ++ records_at c turn.0 turns

-- the file's header, the records in this order, and what comes after the last record of the capture
unfoldable pub capture_by : CaptureView → List (ℕ × ℕ) → List ℕ
capture_by c turns =
    (take file_header_len c.bytes ++ records_at c 0 turns) ++ rest_after (contents_of c).packets (drop file_header_len c.bytes)

-- a file is the capture with these times
pub record IsCaptureAt (c : CaptureView) (times : List (Option ℕ)) (file : List ℕ) : Type 0 where
  pub turns : List (ℕ × ℕ)
  pub in_turn : AreInTurn times turns
  pub bytes : file ≡ capture_by c turns

-- a file is read as this
pub record IsReadAs (file : List ℕ) (c : CaptureView) : Type 0 where
  pub bytes : c.bytes ≡ file
  pub read : reading file ≡ Ok (reading_of c)

-- ---- a capture in raw

pub record IsRawOf (c : CaptureView) (p : RawCapture) : Type 0 where
  pub head : p.head.now ≡ take file_header_len c.bytes
  pub raws : map (λ r. r.now) p.raws.items ≡ raws_of c
  pub rest : p.rest.now ≡ rest_after (contents_of c).packets (drop file_header_len c.bytes)

pub record IsSource (s : Source) : Type 0 where
  pub raw : IsRawOf s.capture.now s.raw.now
  pub recorded : s.recorded.now ≡ recorded_times s.capture.now
