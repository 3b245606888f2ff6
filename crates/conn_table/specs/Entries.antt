-- What the entries of a partial show, and what holds of it.
use Rattle.std.specs.Prelude.{◌<◌, ◌≤◌, ℕ, ◌-◌, ◌^◌, List, length, Vec}
use Rattle.std.specs.Global.{Global}
use Rattle.std.specs.List.{flat_map}
use Rattle.frame_headers.specs.Frame.{FrameClass}
use Rattle.conn_table.specs.declared.class_counts.Counts.{Counts}
use Rattle.conn_table.specs.ClassCounts.{count_at}
use Rattle.conn_table.specs.declared.conns.Pair.{Pair}
use Rattle.conn_table.specs.declared.entries.Entry.{Entry}
use Rattle.conn_table.specs.KeptSegments.{KeptSegment}

abbrev pub pair_in : Entry → Pair
pair_in e = record {
  vlan = e.vlan;
  low = record { addr = e.low_addr; port = e.low_port };
  high = record { addr = e.high_addr; port = e.high_port };
}

abbrev pub kept_by : Entry → KeptSegment
kept_by e = record { pair = pair_in e; member = e.member }

abbrev pub all_of : List (Vec Entry Global) → List Entry
all_of rs = flat_map (λ (r : Vec Entry Global). r.items) rs

-- a range's partial has no more segments, or packets of a class, than the range has records, and record numbers have 26 bits
pub record IsPartial (from to : ℕ) (counts : Counts) (es : List Entry) : Type 0 where
  pub ordered : from ≤ to
  pub few : to < 2 ^ 26
  pub segments : length es ≤ to - from
  pub counted : (k : FrameClass) → count_at k counts ≤ to - from
