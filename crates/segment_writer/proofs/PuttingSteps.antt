-- The pass over a line that puts its segments into a row.
use Rattle.std.proofs.Common.{ℕ, List}
use Rattle.reassembly.specs.declared.line_parts.LinePart.{LinePart}
use Rattle.reassembly.specs.declared.line_parts.End as code
use Rattle.segment_writer.specs.OpenRows.{IsLonger}
use Rattle.segment_writer.specs.declared.framed.Framed.{Framed}
use Rattle.segment_writer.specs.declared.open_rows.OpenRow.{OpenRow}
use Rattle.segment_writer.specs.declared.pieces.Cursor.{Cursor}
use Rattle.segment_writer.specs.declared.senders.Sender.{Sender}
use Rattle.segment_writer.specs.declared.turns.Acknowledged.{Acknowledged}
use Rattle.segment_writer.proofs.TurnSteps.{Going}

-- what was put into the row so far is what was written so far
pub record Putting (before now : OpenRow) (s : Sender) (own : List LinePart) (own_end : code.End) (peer : List LinePart) (peer_end : code.End) (from : Cursor) (acknowledged : Acknowledged) (sent place : ℕ) : Type 0 where
  pub list : List Framed
  pub longer : IsLonger before list now
  pub going : Going s own own_end peer peer_end list from acknowledged sent place
