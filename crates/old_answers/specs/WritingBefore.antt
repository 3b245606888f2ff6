-- How a file's header was written before captures in nanoseconds: the definitions of then, word for word, each name with `_before`.
use Rattle.std.specs.Prelude.{ℕ, List, ◌++◌}
use Rattle.pcap_records.specs.Endian.{little_bytes}
use Rattle.pcap_records.specs.Reading.{magic}

-- there was only the magic number of files in microseconds
abbrev pub magic_of_before : ℕ → ℕ
magic_of_before ticks = magic

-- magic number, version 2.4, time zone 0, accuracy 0, longest packet 65,535, link type Ethernet
unfoldable pub file_header_before : ℕ → List ℕ
file_header_before ticks =
    (((((little_bytes 4 (magic_of_before ticks) ++ little_bytes 2 2) ++ little_bytes 2 4) ++ little_bytes 4 0)
    ++ little_bytes 4 0) ++ little_bytes 4 65535) ++ little_bytes 4 1
