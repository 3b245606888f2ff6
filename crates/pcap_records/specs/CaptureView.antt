-- What contracts see of a `Capture`, and what its faults refuse.
use Rattle.std.specs.Prelude.{◌≤◌, ◌<◌, ℕ, ◌+◌, ◌^◌, List, map, length, take, drop, Option, Some, None, option_map, slice_get, All}
use Rattle.std.specs.List.{slice_range}
use Rattle.pcap_records.specs.declared.heading.Order.{Order}
use Rattle.pcap_records.specs.declared.fault.CaptureFault.{CaptureFault}
use Rattle.pcap_records.specs.declared.fault.CaptureFault.TheVariants.{CaptureTooLong, ShortHeader, BadMagic, BadVersion, BadLink, RecordTooLong, Memory}
use Rattle.pcap_records.specs.declared.capture.Record.{Record}
use Rattle.pcap_records.specs.declared.file_bytes.FileBytes.{FileBytes}
use Rattle.pcap_records.specs.declared.file_bytes.FileBytes.TheVariants.{InBlocks, Whole}
use Rattle.pcap_records.specs.declared.heading.Heading as code
use Rattle.pcap_records.specs.Instants.{horizon, ticks_of}
use Rattle.pcap_records.specs.Reading.{Packet, Contents, Heading, Reading, capture_limit, packet_limit}

-- the file's bytes, the ticks of a second, the order of its fields, its records, and the number of bytes after these
pub record CaptureView : Type 0 where
  pub bytes : List ℕ
  pub ticks : ℕ
  pub order : Order
  pub records : List Record
  pub rest : ℕ

abbrev pub bytes_of : FileBytes → List ℕ
bytes_of (Whole bytes) = bytes.now
bytes_of (InBlocks blocks) = blocks.now

abbrev pub heading_of : code.Heading → Heading
heading_of h = record { order = h.order; ticks = ticks_of h.unit }

abbrev pub packet_of : List ℕ → Record → Packet
packet_of bytes r = record { stamp = r.stamp; bytes = take r.len (drop r.start bytes) }

abbrev pub contents_of : CaptureView → Contents
contents_of c = record { ticks = c.ticks; packets = map (packet_of c.bytes) c.records; rest = c.rest }

abbrev pub reading_of : CaptureView → Reading
reading_of c = record { order = c.order; contents = contents_of c }

abbrev pub packet_at : CaptureView → ℕ → Option (List ℕ)
packet_at c i = option_map (λ p. p.bytes) (slice_get (contents_of c).packets i)

-- the stamps of the records from `from` to below `to`
abbrev pub stamps_between : CaptureView → ℕ → ℕ → List ℕ
stamps_between c from to = map (λ p. p.stamp) (slice_range (contents_of c).packets from to)

pub record IsWithinFile (ticks : ℕ) (bytes : List ℕ) (r : Record) : Type 0 where
  pub ends : r.start + r.len ≤ length bytes
  pub limited : r.len ≤ packet_limit
  pub stamped : r.stamp ≤ horizon ticks

-- what holds of every capture
pub record IsSoundCapture (ticks : ℕ) (bytes : List ℕ) (records : List Record) : Type 0 where
  pub limited : length bytes ≤ capture_limit
  pub within : All (IsWithinFile ticks bytes) records
  pub few : length records < 2 ^ 26

abbrev pub capture_refusal : CaptureFault → Option CaptureFault
capture_refusal (Memory e) = None
capture_refusal CaptureTooLong = Some CaptureTooLong
capture_refusal ShortHeader = Some ShortHeader
capture_refusal BadMagic = Some BadMagic
capture_refusal BadVersion = Some BadVersion
capture_refusal BadLink = Some BadLink
capture_refusal (RecordTooLong k) = Some (RecordTooLong k)
