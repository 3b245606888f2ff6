-- Heads of packets: of each its stamp, how long it is, and its first bytes; and what a reader of heads has found in the first part of a file.
use Rattle.std.specs.Prelude.{◌≡◌, ◌≤◌, ◌<◌, ℕ, ◌+◌, ◌-◌, Bool, ◌==◌, ◌&&◌, if◌then◌else◌, List, [], ◌++◌, length, map, take, drop, slice_index, Result, Ok, Err}
use Rattle.pcap_records.specs.declared.capture.Record.{Record}
use Rattle.pcap_records.specs.declared.fault.CaptureFault.{CaptureFault}
use Rattle.pcap_records.specs.declared.heading.Order.{Order}
use Rattle.pcap_records.specs.CaptureView.{IsSoundCapture, contents_of}
use Rattle.pcap_records.specs.Reading.{Heading, Packet, Contents, Reading, capture_limit, file_header_len, next_record, reading, records_after, torn}

-- headers as most packets have: Ethernet's without a tag, whose type is IPv4's, and IPv4's without options
abbrev pub is_usual : List ℕ → Bool
is_usual bytes = slice_index bytes 12 == 0x08 && (slice_index bytes 13 == 0x00 && slice_index bytes 14 == 0x45)

-- usual headers up to TCP's flags, or an Ethernet header with a tag, the longest IPv4 header, and TCP's without options
unfoldable pub head_len : List ℕ → ℕ
head_len bytes = if is_usual bytes then 48 else 98

abbrev pub head_bytes : List ℕ → List ℕ
head_bytes bytes = take (head_len bytes) bytes

pub record Head : Type 0 where
  pub stamp : ℕ
  pub len : ℕ
  pub bytes : List ℕ

abbrev pub head_of : Packet → Head
head_of p = record { stamp = p.stamp; len = length p.bytes; bytes = head_bytes p.bytes }

pub record Heads : Type 0 where
  pub ticks : ℕ
  pub packets : List Head
  pub rest : ℕ

abbrev pub heads_of : Contents → Heads
heads_of c = record { ticks = c.ticks; packets = map head_of c.packets; rest = c.rest }

abbrev pub heads_in : Result Reading CaptureFault → Result Heads CaptureFault
heads_in (Ok r) = Ok (heads_of r.contents)
heads_in (Err fault) = Err fault

-- what a reader of heads has found: no whole file header yet, the heading and the heads of whole records, or the first fault
pub data Finding : Type 0 where
  no_header : Finding
  some_heads : Heading → List Head → Finding
  a_fault : CaptureFault → Finding

abbrev pub heads_then : List Head → Result Contents CaptureFault → Result Heads CaptureFault
heads_then heads (Ok c) = Ok (record { ticks = c.ticks; packets = heads ++ map head_of c.packets; rest = c.rest })
heads_then heads (Err fault) = Err fault

-- the heads of a file of which this was found so far, if these bytes follow those that were taken
unfoldable pub read_on : Finding → List ℕ → Result Heads CaptureFault
read_on no_header bytes = heads_in (reading bytes)
read_on (some_heads h heads) bytes = heads_then heads (records_after 0 h (length heads) bytes)
read_on (a_fault fault) bytes = Err fault

pub record HeadReaderView : Type 0 where
  pub taken : ℕ
  pub found : Finding

-- it took a first part of the next bytes: whatever follows them, the heads of the file stay the same
pub record Takes (old new : HeadReaderView) (bytes : List ℕ) : Type 0 where
  pub forward : old.taken ≤ new.taken
  pub within : new.taken ≤ old.taken + length bytes
  pub same : (more : List ℕ) → old.taken + length bytes + length more ≤ capture_limit
      → read_on old.found (bytes ++ more) ≡ read_on new.found (drop (new.taken - old.taken) bytes ++ more)

-- no file header or next record lies whole in the bytes that are left; after a fault none are left
abbrev pub IsSpent : Finding → List ℕ → Type 0
IsSpent no_header rest = length rest < file_header_len
IsSpent (some_heads h heads) rest = next_record h rest ≡ torn
IsSpent (a_fault fault) rest = rest ≡ []

pub record HeadRecordsView : Type 0 where
  pub ticks : ℕ
  pub order : Order
  pub records : List Record
  pub rest : ℕ

-- over these bytes they are the records of a capture that has these heads
pub record AreRecordsOf (heads : Heads) (bytes : List ℕ) (list : HeadRecordsView) : Type 0 where
  pub sound : IsSoundCapture list.ticks bytes list.records
  pub same : heads_of (contents_of (record { bytes = bytes; ticks = list.ticks; order = list.order; records = list.records; rest = list.rest })) ≡ heads
