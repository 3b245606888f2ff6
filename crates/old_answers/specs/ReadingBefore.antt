-- How a file was read before captures in nanoseconds: the definitions of then, word for word, each name with `_before`.
use Rattle.std.specs.Prelude.{◌==◌, ℕ, nat_lt, if◌then◌else◌, List, length, Option, Some, None, Result, Err}
use Rattle.pcap_records.specs.declared.heading.Order.{Order}
use Rattle.pcap_records.specs.declared.heading.Order.TheVariants.{Big, Little}
use Rattle.pcap_records.specs.declared.fault.CaptureFault.{CaptureFault}
use Rattle.pcap_records.specs.declared.fault.CaptureFault.TheVariants.{CaptureTooLong, ShortHeader}
use Rattle.pcap_records.specs.Instants.{microseconds}
use Rattle.pcap_records.specs.Reading.{Heading, Reading, capture_limit, file_header_len, number_in, magic, checked_heading, reading_with}

abbrev pub microsecond_heading_before : Order → Heading
microsecond_heading_before o = record { order = o; ticks = microseconds }

abbrev pub magic_heading_before : List ℕ → Option Heading
magic_heading_before bytes =
    if number_in Big 4 bytes == magic then Some (microsecond_heading_before Big) else
    (if number_in Little 4 bytes == magic then Some (microsecond_heading_before Little) else None)

unfoldable pub file_heading_before : List ℕ → Result Heading CaptureFault
file_heading_before bytes =
    if nat_lt capture_limit (length bytes) then Err CaptureTooLong else
    (if nat_lt (length bytes) file_header_len then Err ShortHeader else checked_heading (magic_heading_before bytes) bytes)

unfoldable pub reading_before : List ℕ → Result Reading CaptureFault
reading_before bytes = reading_with (file_heading_before bytes) bytes
