-- What is written of a row that is put together, when it is longer than before, and its order.
use Rattle.std.specs.Prelude.{◌≡◌, ℕ, ◌++◌, All, List, Option, Some, None, Vec, map}
use Rattle.std.specs.Global.{Global}
use Rattle.std.specs.List.{AllByRecursion}
use Rattle.segment_writer.specs.Senders.{in_turn}
use Rattle.segment_writer.specs.SegmentOutlines.{side_sender}
use Rattle.segment_writer.specs.SegmentRows.{framed_at, segment_key, IsInRow}
use Rattle.segment_writer.specs.declared.framed.Framed.{Framed}
use Rattle.segment_writer.specs.ShortKeys.{are_at, HasShortKey}
use Rattle.segment_writer.specs.WrittenSegments.{sorted_by_key}
use Rattle.segment_writer.specs.declared.open_rows.OpenRow.{OpenRow}
use Rattle.segment_writer.specs.declared.senders.Sender.{Sender}

abbrev pub written_in : OpenRow → List Framed
written_in row = map (framed_at row.gathered.items) row.segments.items

abbrev pub IsRow : OpenRow → Type 0
IsRow row = AllByRecursion (IsInRow row.gathered.items) row.segments.items

pub record IsLonger (before : OpenRow) (more : List Framed) (now : OpenRow) : Type 0 where
  pub written : written_in now ≡ written_in before ++ more
  pub row : IsRow now

-- who sends is this client, or its server
abbrev pub IsSideOf : Sender → Sender → Type 0
IsSideOf client s = in_turn (side_sender client s.is_server) s.turn ≡ s

-- the short keys of a row's segments in order of key
pub record AreShortKeys (row : OpenRow) (shorts : List ℕ) : Type 0 where
  pub each : All (HasShortKey (map segment_key row.segments.items)) shorts
  pub sorted : are_at (written_in row) shorts ≡ sorted_by_key (written_in row)

-- the order of a row's segments by key: that of their short keys, or as they stand
abbrev pub IsOrder : OpenRow → Option (Vec ℕ Global) → Type 0
IsOrder row None = IsRow row × (written_in row ≡ sorted_by_key (written_in row))
IsOrder row (Some shorts) = IsRow row × AreShortKeys row shorts.items
