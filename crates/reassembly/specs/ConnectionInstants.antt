-- When the segments of a capture's connections were recorded.
use Rattle.std.specs.Prelude.{◌≤◌, ℕ}
use Rattle.std.specs.List.{AllByRecursion}
use Rattle.pcap_records.specs.Instants.{horizon}
use Rattle.pcap_records.specs.CaptureView.{CaptureView, IsSoundCapture}
use Rattle.conn_table.specs.Connections.{Connection, connections}
use Rattle.conn_table.specs.Partials.{segments_between}
use Rattle.reassembly.specs.Positions.{members_of}
use Rattle.reassembly.specs.LineLaws.{InstantsRise, HasShortPayload, IsBetween}

-- the instants lie between the opening and the horizon and do not fall, and no payload is longer than a capture
pub record IsInTime (ticks : ℕ) (c : Connection) : Type 0 where
  pub between : AllByRecursion (IsBetween c.opening.at (horizon ticks)) (members_of c)
  pub rising : InstantsRise 0 (members_of c)
  pub short : AllByRecursion HasShortPayload (members_of c)

-- this holds of each connection in a range of records; `carry` is the greatest stamp before the range
abbrev pub ConnectionsAreInTime : Type 0
ConnectionsAreInTime =
    (c : CaptureView) (from to carry : ℕ) → IsSoundCapture c.ticks c.bytes c.records → carry ≤ horizon c.ticks
    → AllByRecursion (IsInTime c.ticks) (connections (segments_between c from to carry))
