-- Short keys: numbers whose low bits are the number of a segment in its row, and whose others are its ticks.
use Rattle.std.specs.Prelude.{◌≡◌, ◌<◌, ◌≤◌, ℕ, ◌+◌, ◌-◌, ◌*◌, ◌^◌, ◌%◌, true, List, length, map, slice_index_or}
use Rattle.segment_writer.specs.SegmentOutlines.{no_segment}
use Rattle.segment_writer.specs.WrittenSegments.{is_key_below}
use Rattle.segment_writer.specs.declared.framed.Framed.{Framed}
use Rattle.segment_writer.specs.declared.framed.SegKey.{SegKey}

abbrev pub number_in : ℕ → ℕ
number_in short = short % 2 ^ 26

abbrev pub key_at : List SegKey → ℕ → SegKey
key_at keys n = slice_index_or keys n no_segment.key

-- the segments with these short keys
abbrev pub are_at : List Framed → List ℕ → List Framed
are_at segments shorts = map (λ s. slice_index_or segments (number_in s) no_segment) shorts

abbrev pub without_moment : SegKey → SegKey
without_moment k = record { moment = 0; conn = k.conn; turn = k.turn; place = k.place }

-- by connection, turn and place one segment comes before another
abbrev pub ComesBefore : SegKey → SegKey → Type 0
ComesBefore a b = is_key_below (without_moment a) (without_moment b) ≡ true

-- the short key of segment n, whose ticks are counted from the first one's moment
pub record IsShortKey (keys : List SegKey) (n short : ℕ) : Type 0 where
  pub number : number_in short ≡ n
  pub early : (key_at keys 0).moment ≤ (key_at keys n).moment
  pub is : short ≡ ((key_at keys n).moment - (key_at keys 0).moment) * 2 ^ 26 + n
  pub fits : (key_at keys n).moment < 2 ^ 64

-- it is the short key of one of the segments
pub record HasShortKey (keys : List SegKey) (short : ℕ) : Type 0 where
  pub within : number_in short < length keys
  pub of : IsShortKey keys (number_in short) short

-- the short keys of the first `count` segments, each of which comes before those after it
pub record HaveShortKeys (keys : List SegKey) (count : ℕ) (shorts : List ℕ) : Type 0 where
  pub many : length shorts ≡ count
  pub each : (i : ℕ) → i < count → IsShortKey keys i (slice_index_or shorts i 0)
  pub in_turn : (i j : ℕ) → i < j → j < count → ComesBefore (key_at keys i) (key_at keys j)
