-- The capture of written segments: the header of a file, and the records of the segments.
use Rattle.std.specs.Prelude.{ℕ, List, ◌++◌}
use Rattle.std.specs.List.{flat_map}
use Rattle.pcap_records.specs.Writing.{file_header}
use Rattle.segment_writer.specs.declared.framed.Framed.{Framed}
use Rattle.segment_writer.specs.WrittenSegments.{sorted_by_key}

abbrev pub all_segments : List (List Framed) → List Framed
all_segments lists = flat_map (λ list. list) lists

-- the capture of segments in the order in which they stand
abbrev pub capture_in_turn : ℕ → List Framed → List ℕ
capture_in_turn ticks segments = file_header ticks ++ flat_map (λ x. x.bytes) segments

-- the output capture of segments: in order of key
unfoldable pub capture_of : ℕ → List Framed → List ℕ
capture_of ticks segments = capture_in_turn ticks (sorted_by_key segments)
