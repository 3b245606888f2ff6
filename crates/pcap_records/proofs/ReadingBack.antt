-- What is written is read back: its records are a split of the file.
use Rattle.std.proofs.Common.{◌≡◌, ◌<◌, ◌≤◌, inl, ℕ, ◌+◌, ◌*◌, ◌/◌, ◌%◌, ◌^◌, List, [], ◌∷◌, ◌++◌, length, map, drop, refl, sym, ap, ◌∙◌, arith, Ok}
use Rattle.std.specs.List.{flat_map, AllByRecursion}
use Rattle.std.proofs.Math.Nat.{div-add-mod, min-eq_left, mul_comm}
use Rattle.std.proofs.lemmas.Bool.{le-ltb}
use Rattle.std.proofs.lemmas.List.{append-nil}
use Rattle.byteorder.specs.Endian.{little_bytes, little_number}
use Rattle.byteorder.specs.Numbers.{little_number-reads_back}
use Rattle.pcap_records.specs.declared.heading.Order.TheVariants.{Little}
use Rattle.pcap_records.specs.Instants.{ticks_of, horizon, instant}
use Rattle.pcap_records.specs.declared.unit.Unit.{Unit}
use Rattle.pcap_records.specs.declared.unit.Unit.TheVariants.{Micros, Nanos}
use Rattle.pcap_records.specs.Reading.{Heading, Packet, capture_limit, file_heading}
use Rattle.pcap_records.specs.Grammar.{RawRecord, IsRawRecord, Splits, raw_bytes, packet_of_raw}
use Rattle.pcap_records.specs.Writing.{file_header, record_header, record_bytes, written_capture, IsWritable, WrittenIsRead}
use Rattle.pcap_records.proofs.Splitting.{splits_are_read}

heading_written : ℕ → Heading
heading_written ticks = record { order = Little; ticks = ticks }

raw_of : ℕ → Packet → RawRecord
raw_of ticks p = record { header = record_header ticks p.stamp (length p.bytes); packet = p.bytes }

heading_is : (unit : Unit) (records : List ℕ) → length (file_header (ticks_of unit) ++ records) ≤ capture_limit → file_heading (file_header (ticks_of unit) ++ records) ≡ Ok (heading_written (ticks_of unit))
unfolding file_heading file_header heading_written
heading_is Micros records within =
    let not_over = le-ltb capture_limit (length (file_header (ticks_of Micros) ++ records)) within in
    let not_short = le-ltb (length (file_header (ticks_of Micros) ++ records)) 24 (omega arith) in
    rw (not_over, not_short) refl
heading_is Nanos records within =
    let not_over = le-ltb capture_limit (length (file_header (ticks_of Nanos) ++ records)) within in
    let not_short = le-ltb (length (file_header (ticks_of Nanos) ++ records)) 24 (omega arith) in
    rw (not_over, not_short) refl

raws_bytes : (ticks : ℕ) (packets : List Packet) → flat_map (λ p. record_bytes ticks p.stamp p.bytes) packets ≡ flat_map raw_bytes (map (raw_of ticks) packets)
unfolding raw_of
raws_bytes ticks [] = refl
raws_bytes ticks (p ∷ packets) = ap (λ bytes. record_bytes ticks p.stamp p.bytes ++ bytes) (raws_bytes ticks packets)

-- a field of four bytes, wherever it stands
field_read : (x : ℕ) (rest : List ℕ) → x < 2 ^ 32 → little_number 4 (little_bytes 4 x ++ rest) ≡ x
field_read x rest fits = little_number-reads_back 4 x rest fits

-- an instant before the horizon: its seconds have a field, and its ticks over these
seconds_fit : (unit : Unit) (at : ℕ) → at < horizon (ticks_of unit) → at / ticks_of unit < 2 ^ 32
seconds_fit Micros at before = omega (arith, before)
seconds_fit Nanos at before = omega (arith, before)

over_fits : (unit : Unit) (at : ℕ) → at % ticks_of unit < 2 ^ 32
over_fits Micros at = omega arith
over_fits Nanos at = omega arith

instant_read : (ticks at seconds over : ℕ) → at < horizon ticks → seconds ≡ at / ticks → over ≡ at % ticks → instant ticks (seconds * ticks + over) ≡ at
instant_read ticks at seconds over before whole part =
    let sum : seconds * ticks + over ≡ at = rw (whole, part, mul_comm (at / ticks) ticks) (div-add-mod at ticks) in
    rw sum (min-eq_left (omega (arith, before)))

module _ (unit : Unit) (p : Packet) (is : IsWritable (ticks_of unit) p) where
  raw_is : IsRawRecord (heading_written (ticks_of unit)) (raw_of (ticks_of unit) p)
  unfolding heading_written raw_of record_header
  raw_is = record {
    whole_header = refl;
    announced = field_read (length p.bytes) (little_bytes 4 (length p.bytes)) (omega (arith, is.limited));
    limited = is.limited;
  }

  packet_is : packet_of_raw (heading_written (ticks_of unit)) (raw_of (ticks_of unit) p) ≡ p
  unfolding heading_written raw_of record_header
  packet_is =
      let len = little_bytes 4 (length p.bytes) in
      let seconds = field_read (p.stamp / ticks_of unit) (little_bytes 4 (p.stamp % ticks_of unit) ++ (len ++ len)) (seconds_fit unit p.stamp is.stamped) in
      let over = field_read (p.stamp % ticks_of unit) (len ++ len) (over_fits unit p.stamp) in
      ap (λ (at : ℕ). record { stamp = at; bytes = p.bytes }) (instant_read (ticks_of unit) p.stamp _ _ is.stamped seconds over)

raws_are : (unit : Unit) (packets : List Packet) → AllByRecursion (IsWritable (ticks_of unit)) packets → AllByRecursion (IsRawRecord (heading_written (ticks_of unit))) (map (raw_of (ticks_of unit)) packets)
raws_are unit [] each = tt
raws_are unit (p ∷ packets) each = (raw_is unit p each.0, raws_are unit packets each.1)

packets_are : (unit : Unit) (packets : List Packet) → AllByRecursion (IsWritable (ticks_of unit)) packets → map (packet_of_raw (heading_written (ticks_of unit))) (map (raw_of (ticks_of unit)) packets) ≡ packets
packets_are unit [] each = refl
packets_are unit (p ∷ packets) each = rw (packet_is unit p each.0, packets_are unit packets each.1) refl

pub written_is_read : WrittenIsRead
unfolding heading_written file_header
written_is_read unit packets each within =
    let ticks = ticks_of unit in
    let raws = map (raw_of ticks) packets in
    let splits : Splits (heading_written ticks) (drop 24 (written_capture ticks packets)) raws [] = record {
      whole = raws_bytes ticks packets ∙ sym (append-nil (flat_map raw_bytes raws));
      each = raws_are unit packets each;
    } in
    let read = splits_are_read (written_capture ticks packets) (heading_written ticks) raws [] (heading_is unit (flat_map (λ p. record_bytes ticks p.stamp p.bytes) packets) within) splits (inl (omega arith)) in
    rw (packets_are unit packets each) at read
