-- The lines of a text that lists hosts.
use Rattle.std.specs.Prelude.{ℕ, ◌-◌, ◌==◌, Bool, List, [], length, slice_index, take, if◌then◌else◌}
use Rattle.toxicap.specs.Words.{slice_split}

abbrev pub is_line_feed : ℕ → Bool
is_line_feed byte = byte == 10

abbrev pub without_last_feed : List ℕ → List ℕ
without_last_feed text =
    if is_line_feed (slice_index text (length text - 1)) then take (length text - 1) text else text

-- its lines, cut at its other line feeds; a text without a byte has none
abbrev pub host_lines : List ℕ → List (List ℕ)
host_lines text = if length text == 0 then [] else slice_split is_line_feed (without_last_feed text)
