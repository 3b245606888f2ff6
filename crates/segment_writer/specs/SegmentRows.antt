-- What is written of segments that stand in a row, side by side.
use Rattle.std.specs.Prelude.{◌≤◌, ◌<◌, ℕ, ◌+◌, List, [], drop, length, take}
use Rattle.pcap_records.specs.Instants.{horizon, ticks_of}
use Rattle.pcap_records.specs.Writing.{record_bytes}
use Rattle.frame_headers.specs.Layout.{payload_limit}
use Rattle.segment_writer.specs.Senders.{frame_with, header_with}
use Rattle.segment_writer.specs.SegmentOutlines.{side_sender}
use Rattle.segment_writer.specs.declared.framed.Framed.{Framed}
use Rattle.segment_writer.specs.declared.framed.SegKey.{SegKey}
use Rattle.segment_writer.specs.declared.payloads.Payload.{Payload}
use Rattle.segment_writer.specs.declared.payloads.Payload.TheVariants.{Lent, Gathered}
use Rattle.segment_writer.specs.declared.row_segments.RowSegment.{RowSegment}
use Rattle.segment_writer.specs.declared.senders.Sender.{Sender}

-- ---- payloads

abbrev pub payload_in : List ℕ → Payload → List ℕ
payload_in gathered (Lent bytes) = bytes.now
payload_in gathered (Gathered start len) = take len (drop start gathered)

abbrev pub IsHeld : List ℕ → Payload → Type 0
IsHeld gathered (Lent bytes) = Unit {0}
IsHeld gathered (Gathered start len) = start + len ≤ length gathered

abbrev pub gathered_for : List ℕ → Payload → List ℕ
gathered_for bytes (Lent lent) = []
gathered_for bytes (Gathered start len) = bytes

-- ---- segments

abbrev pub sender_of : RowSegment → Sender
sender_of s = side_sender s.client.now s.is_server

abbrev pub segment_key : RowSegment → SegKey
segment_key s = record { moment = s.moment; conn = s.client.now.conn; turn = s.turn; place = s.place }

abbrev pub framed_at : List ℕ → RowSegment → Framed
framed_at gathered s = record {
  key = segment_key s;
  bytes = record_bytes (ticks_of (sender_of s).unit) s.moment (frame_with (header_with (sender_of s) s.seq s.ack s.flags) (payload_in gathered s.payload));
}

-- it is before the horizon, and its payload is there and fits
pub record IsInRow (gathered : List ℕ) (s : RowSegment) : Type 0 where
  pub early : s.moment < horizon (ticks_of (sender_of s).unit)
  pub held : IsHeld gathered s.payload
  pub small : length (payload_in gathered s.payload) ≤ payload_limit
