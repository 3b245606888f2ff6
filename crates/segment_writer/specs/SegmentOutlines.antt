-- What is written of segments that stand in outline.
use Rattle.std.specs.Prelude.{◌≡◌, ◌≤◌, ◌<◌, ℕ, Bool, true, false, List, [], length, take}
use Rattle.pcap_records.specs.Instants.{horizon, ticks_of}
use Rattle.pcap_records.specs.Writing.{record_bytes}
use Rattle.frame_headers.specs.Layout.{payload_limit}
use Rattle.reassembly.specs.declared.line_parts.LinePart.{LinePart}
use Rattle.segment_writer.specs.FirstPieces.{values}
use Rattle.segment_writer.specs.LineCursors.{left_at, IsCursor}
use Rattle.segment_writer.specs.Senders.{header_with, frame_with, peer_in}
use Rattle.segment_writer.specs.declared.framed.Framed.{Framed}
use Rattle.segment_writer.specs.declared.segment_outline.SegmentOutline.{SegmentOutline}
use Rattle.segment_writer.specs.declared.senders.Sender.{Sender}
use Rattle.segment_writer.specs.declared.senders.Turn.TheVariants.{Opening}

-- ---- of one sender, whose line has these parts

abbrev pub outlined_payload : List LinePart → SegmentOutline → List ℕ
outlined_payload own l = values (take l.len (left_at own l.from))

abbrev pub framed_of : Sender → List LinePart → SegmentOutline → Framed
framed_of s own l = record {
  key = l.key;
  bytes = record_bytes (ticks_of s.unit) l.key.moment (frame_with (header_with s l.seq l.ack l.flags) (outlined_payload own l));
}

-- it is before the horizon, and what it takes of the line is there and fits
pub record IsOutline (s : Sender) (own : List LinePart) (l : SegmentOutline) : Type 0 where
  pub side : l.is_server ≡ s.is_server
  pub conn : l.key.conn ≡ s.conn
  pub early : l.key.moment < horizon (ticks_of s.unit)
  pub small : l.len ≤ payload_limit
  pub within : l.len ≤ length (left_at own l.from)
  pub cursor : 0 < l.len → IsCursor own l.from

-- ---- of the two sides of a connection

abbrev pub side_sender : Sender → Bool → Sender
side_sender client false = client
side_sender client true = peer_in client Opening

abbrev pub no_segment : Framed
no_segment = record { key = record { moment = 0; conn = 0; turn = 0; place = 0 }; bytes = [] }
