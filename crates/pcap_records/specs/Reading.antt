-- What a classic pcap file holds (pcap 2.4, "Savefile Format"): a file header, records, and a rest, which begins with no whole record.
use Rattle.std.specs.Prelude.{◌==◌, ℕ, zero, suc, ◌+◌, ◌-◌, ◌*◌, ◌^◌, nat_lt, ◌||◌, not, if◌then◌else◌, List, [], ◌∷◌, length, take, drop, Option, Some, None, Result, Ok, Err}
use Rattle.std.specs.Option.{option_or}
use Rattle.byteorder.specs.Endian.{big_number, little_number}
use Rattle.pcap_records.specs.declared.heading.Order.{Order}
use Rattle.pcap_records.specs.declared.heading.Order.TheVariants.{Big, Little}
use Rattle.pcap_records.specs.declared.fault.CaptureFault.{CaptureFault}
use Rattle.pcap_records.specs.declared.fault.CaptureFault.TheVariants.{CaptureTooLong, ShortHeader, BadMagic, BadVersion, BadLink, RecordTooLong}
use Rattle.pcap_records.specs.Instants.{microseconds, nanoseconds, instant}

pub record Packet : Type 0 where
  pub stamp : ℕ
  pub bytes : List ℕ

-- the ticks of a second, the whole records in the file's order, and the number of bytes after them
pub record Contents : Type 0 where
  pub ticks : ℕ
  pub packets : List Packet
  pub rest : ℕ

-- what the magic number says: the order of the bytes of each field, and the ticks of a second
pub record Heading : Type 0 where
  pub order : Order
  pub ticks : ℕ

pub record Reading : Type 0 where
  pub order : Order
  pub contents : Contents

abbrev pub capture_limit : ℕ
capture_limit = 2 ^ 30

-- the limit of libpcap
abbrev pub packet_limit : ℕ
packet_limit = 262144

abbrev pub file_header_len : ℕ
file_header_len = 24

abbrev pub record_header_len : ℕ
record_header_len = 16

abbrev pub number_in : Order → ℕ → List ℕ → ℕ
number_in Big n bytes = big_number n bytes
number_in Little n bytes = little_number n bytes

abbrev pub magic : ℕ
magic = 0xa1b2c3d4

abbrev pub nanosecond_magic : ℕ
nanosecond_magic = 0xa1b23c4d

-- the heading if the first four bytes are this magic number in one of the orders
abbrev pub heading_by : ℕ → ℕ → List ℕ → Option Heading
heading_by magic ticks bytes =
    if number_in Big 4 bytes == magic then Some (record { order = Big; ticks = ticks }) else
    (if number_in Little 4 bytes == magic then Some (record { order = Little; ticks = ticks }) else None)

abbrev pub magic_heading : List ℕ → Option Heading
magic_heading bytes = option_or (heading_by magic microseconds bytes) (heading_by nanosecond_magic nanoseconds bytes)

-- version 2.4, and link type 1, which is Ethernet with no bits of a frame check sequence
abbrev pub checked_heading : Option Heading → List ℕ → Result Heading CaptureFault
checked_heading None bytes = Err BadMagic
checked_heading (Some h) bytes =
    if not (number_in h.order 2 (drop 4 bytes) == 2) || not (number_in h.order 2 (drop 6 bytes) == 4)
    then Err BadVersion else
    (if not (number_in h.order 4 (drop 20 bytes) == 1) then Err BadLink else Ok h)

unfoldable pub file_heading : List ℕ → Result Heading CaptureFault
file_heading bytes =
    if nat_lt capture_limit (length bytes) then Err CaptureTooLong else
    (if nat_lt (length bytes) file_header_len then Err ShortHeader else checked_heading (magic_heading bytes) bytes)

-- ---- the next record, with which some bytes begin

-- the third field of a record's header
abbrev pub packet_len : Heading → List ℕ → ℕ
packet_len h bytes = number_in h.order 4 (drop 8 bytes)

-- its first two fields: seconds, and ticks, which may be more than a second
abbrev pub stamp_of : Heading → List ℕ → ℕ
stamp_of h bytes = instant h.ticks (number_in h.order 4 bytes * h.ticks + number_in h.order 4 (drop 4 bytes))

abbrev pub first_packet : Heading → List ℕ → Packet
first_packet h bytes =
    record { stamp = stamp_of h bytes; bytes = take (packet_len h bytes) (drop record_header_len bytes) }

-- a header that announces too long a packet is too long even if the file does not hold the packet
pub data NextRecord : Type 0 where
  whole : NextRecord
  torn : NextRecord
  too_long : NextRecord

unfoldable pub next_record : Heading → List ℕ → NextRecord
next_record h bytes =
    if nat_lt (length bytes) record_header_len then torn else
    (if nat_lt packet_limit (packet_len h bytes) then too_long else
    (if nat_lt (length bytes - record_header_len) (packet_len h bytes) then torn else whole))

abbrev pub contents_with_packet : Packet → Result Contents CaptureFault → Result Contents CaptureFault
contents_with_packet p (Ok c) = Ok (record { ticks = c.ticks; packets = p ∷ c.packets; rest = c.rest })
contents_with_packet p (Err e) = Err e

-- what bytes hold whose next record is number k, if `after` is read after it
abbrev pub contents_at : NextRecord → Heading → ℕ → List ℕ → Result Contents CaptureFault → Result Contents CaptureFault
contents_at torn h k bytes after = Ok (record { ticks = h.ticks; packets = []; rest = length bytes })
contents_at too_long h k bytes after = Err (RecordTooLong k)
contents_at whole h k bytes after = contents_with_packet (first_packet h bytes) after

-- the records from number k on; the first n bytes still belong to the record before
unfoldable pub records_after : ℕ → Heading → ℕ → List ℕ → Result Contents CaptureFault
records_after n h k [] = Ok (record { ticks = h.ticks; packets = []; rest = 0 })
records_after zero h k (b ∷ bytes) =
    contents_at (next_record h (b ∷ bytes)) h k (b ∷ bytes)
    (records_after (record_header_len - 1 + packet_len h (b ∷ bytes)) h (suc k) bytes)
records_after (suc n) h k (b ∷ bytes) = records_after n h k bytes

abbrev pub reading_in : Order → Result Contents CaptureFault → Result Reading CaptureFault
reading_in o (Ok c) = Ok (record { order = o; contents = c })
reading_in o (Err e) = Err e

abbrev pub reading_with : Result Heading CaptureFault → List ℕ → Result Reading CaptureFault
reading_with (Ok h) bytes = reading_in h.order (records_after 0 h 0 (drop file_header_len bytes))
reading_with (Err e) bytes = Err e

unfoldable pub reading : List ℕ → Result Reading CaptureFault
reading bytes = reading_with (file_heading bytes) bytes
