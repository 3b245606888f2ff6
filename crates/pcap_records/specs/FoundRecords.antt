-- What the reader finds at one place of a file, and the contents that the records listed by it stand for.
use Rattle.std.specs.Prelude.{◌≡◌, ℕ, ◌+◌, List, map, drop}
use Rattle.pcap_records.specs.declared.capture.Record.{Record}
use Rattle.pcap_records.specs.declared.reader.Found.{Found}
use Rattle.pcap_records.specs.declared.reader.Found.TheVariants.{Torn, TooLong, Whole}
use Rattle.pcap_records.specs.declared.reader.RecordList.{RecordList}
use Rattle.pcap_records.specs.Reading.{Contents, Heading, next_record, whole, torn, too_long, first_packet, packet_len, record_header_len}
use Rattle.pcap_records.specs.CaptureView.{IsWithinFile, packet_of}

-- r is the whole record that begins at `at`
pub record IsRecordAt (h : Heading) (bytes : List ℕ) (at : ℕ) (r : Record) : Type 0 where
  pub is_whole : next_record h (drop at bytes) ≡ whole
  pub start : r.start ≡ at + record_header_len
  pub len : r.len ≡ packet_len h (drop at bytes)
  pub packet : packet_of bytes r ≡ first_packet h (drop at bytes)
  pub within : IsWithinFile h.ticks bytes r

abbrev pub IsFoundAt : Heading → List ℕ → ℕ → Found → Type 0
IsFoundAt h bytes at Torn = next_record h (drop at bytes) ≡ torn
IsFoundAt h bytes at TooLong = next_record h (drop at bytes) ≡ too_long
IsFoundAt h bytes at (Whole r) = IsRecordAt h bytes at r

abbrev pub listed_contents : ℕ → List ℕ → RecordList → Contents
listed_contents ticks bytes list =
    record { ticks = ticks; packets = map (packet_of bytes) list.records.items; rest = list.rest }
