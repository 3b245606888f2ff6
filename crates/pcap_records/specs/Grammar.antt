-- The file format as a grammar, apart from any way of reading: which splits of the bytes it allows.
use Rattle.std.specs.Prelude.{◌≡◌, ◌≤◌, ◌<◌, ◌⊎◌, ℕ, ◌+◌, List, ◌++◌, length, drop, map, Ok, Err}
use Rattle.std.specs.List.{flat_map, AllByRecursion}
use Rattle.pcap_records.specs.declared.fault.CaptureFault.TheVariants.{RecordTooLong}
use Rattle.pcap_records.specs.Reading.{Heading, Packet, Reading, file_header_len, record_header_len, packet_len, packet_limit, stamp_of, file_heading, reading}

pub record RawRecord : Type 0 where
  pub header : List ℕ
  pub packet : List ℕ

abbrev pub raw_bytes : RawRecord → List ℕ
raw_bytes p = p.header ++ p.packet

-- a whole header that announces the packet's length, which is within the limit
pub record IsRawRecord (h : Heading) (p : RawRecord) : Type 0 where
  pub whole_header : length p.header ≡ record_header_len
  pub announced : packet_len h p.header ≡ length p.packet
  pub limited : length p.packet ≤ packet_limit

-- bytes that do not begin with a whole record, and do not announce too long a packet
abbrev pub IsRest : Heading → List ℕ → Type 0
IsRest h bytes =
    (length bytes < record_header_len)
    ⊎ ((packet_len h bytes ≤ packet_limit) × (length bytes < record_header_len + packet_len h bytes))

abbrev pub AnnouncesTooMuch : Heading → List ℕ → Type 0
AnnouncesTooMuch h bytes = (record_header_len ≤ length bytes) × (packet_limit < packet_len h bytes)

-- the bytes after the file header are these records, one after another, and then the rest
pub record Splits (h : Heading) (bytes : List ℕ) (raws : List RawRecord) (rest : List ℕ) : Type 0 where
  pub whole : bytes ≡ flat_map raw_bytes raws ++ rest
  pub each : AllByRecursion (IsRawRecord h) raws

abbrev pub packet_of_raw : Heading → RawRecord → Packet
packet_of_raw h p = record { stamp = stamp_of h p.header; bytes = p.packet }

abbrev pub reading_by : Heading → List RawRecord → List ℕ → Reading
reading_by h raws rest =
    record {
      order = h.order;
      contents = record { ticks = h.ticks; packets = map (packet_of_raw h) raws; rest = length rest };
    }

-- what is read has a split: its packets are the records', and its rest begins with no whole record
abbrev pub ReadingsSplit : Type 0
ReadingsSplit =
    (bytes : List ℕ) (r : Reading) → reading bytes ≡ Ok r
    → (h : Heading) × (raws : List RawRecord) × (rest : List ℕ)
    × ((file_heading bytes ≡ Ok h) × Splits h (drop file_header_len bytes) raws rest × IsRest h rest
    × (r ≡ reading_by h raws rest))

-- what has a split is read as the split says; hence a file has at most one split
abbrev pub SplitsAreRead : Type 0
SplitsAreRead =
    (bytes : List ℕ) (h : Heading) (raws : List RawRecord) (rest : List ℕ)
    → file_heading bytes ≡ Ok h → Splits h (drop file_header_len bytes) raws rest → IsRest h rest
    → reading bytes ≡ Ok (reading_by h raws rest)

-- a refusal at record k means k whole records, and then a header that announces too much
abbrev pub RefusalsSplit : Type 0
RefusalsSplit =
    (bytes : List ℕ) (h : Heading) (k : ℕ) → file_heading bytes ≡ Ok h → reading bytes ≡ Err (RecordTooLong k)
    → (raws : List RawRecord) × (rest : List ℕ)
    × ((length raws ≡ k) × Splits h (drop file_header_len bytes) raws rest × AnnouncesTooMuch h rest)

-- such a split is refused at its number of records
abbrev pub SplitsAreRefused : Type 0
SplitsAreRefused =
    (bytes : List ℕ) (h : Heading) (raws : List RawRecord) (rest : List ℕ)
    → file_heading bytes ≡ Ok h → Splits h (drop file_header_len bytes) raws rest → AnnouncesTooMuch h rest
    → reading bytes ≡ Err (RecordTooLong (length raws))
