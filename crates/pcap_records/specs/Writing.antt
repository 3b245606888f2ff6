-- Written captures (pcap 2.4): fields with the lowest byte first.
use Rattle.std.specs.Prelude.{◌≡◌, ◌<◌, ◌≤◌, ◌==◌, ℕ, ◌/◌, ◌%◌, if◌then◌else◌, List, ◌++◌, length, Ok}
use Rattle.std.specs.List.{flat_map, AllByRecursion}
use Rattle.byteorder.specs.Endian.{little_bytes}
use Rattle.pcap_records.specs.declared.heading.Order.TheVariants.{Little}
use Rattle.pcap_records.specs.Instants.{nanoseconds, ticks_of, horizon}
use Rattle.pcap_records.specs.declared.unit.Unit.{Unit}
use Rattle.pcap_records.specs.Reading.{Packet, magic, nanosecond_magic, capture_limit, packet_limit, reading}

abbrev pub magic_of : ℕ → ℕ
magic_of ticks = if ticks == nanoseconds then nanosecond_magic else magic

-- magic number, version 2.4, time zone 0, accuracy 0, longest packet 65,535, link type Ethernet
unfoldable pub file_header : ℕ → List ℕ
file_header ticks =
    (((((little_bytes 4 (magic_of ticks) ++ little_bytes 2 2) ++ little_bytes 2 4) ++ little_bytes 4 0)
    ++ little_bytes 4 0) ++ little_bytes 4 65535) ++ little_bytes 4 1

-- seconds, ticks, captured length, original length
unfoldable pub record_header : ℕ → ℕ → ℕ → List ℕ
record_header ticks at len =
    ((little_bytes 4 (at / ticks) ++ little_bytes 4 (at % ticks)) ++ little_bytes 4 len) ++ little_bytes 4 len

abbrev pub record_bytes : ℕ → ℕ → List ℕ → List ℕ
record_bytes ticks at packet = record_header ticks at (length packet) ++ packet

abbrev pub written_capture : ℕ → List Packet → List ℕ
written_capture ticks packets = file_header ticks ++ flat_map (λ p. record_bytes ticks p.stamp p.bytes) packets

pub record IsWritable (ticks : ℕ) (p : Packet) : Type 0 where
  pub stamped : p.stamp < horizon ticks
  pub limited : length p.bytes ≤ packet_limit

-- what is written in a unit is read back in it: the same packets with the same stamps, and no rest
abbrev pub WrittenIsRead : Type 0
WrittenIsRead =
    (unit : Unit) (packets : List Packet) → AllByRecursion (IsWritable (ticks_of unit)) packets
    → length (written_capture (ticks_of unit) packets) ≤ capture_limit
    → reading (written_capture (ticks_of unit) packets)
    ≡ Ok (record { order = Little; contents = record { ticks = ticks_of unit; packets = packets; rest = 0 } })
