-- The segments of a connection, from its opening and its two lines.
use Rattle.std.proofs.Common.{◌≡◌, ◌≤◌, ℕ, nat_lt, Bool, true, false, List, [], ◌∷◌, ◌++◌, refl, sym, ap, ap₂, ◌∙◌, arith}
use Rattle.std.proofs.lemmas.List.Elements.{filter-append}
use Rattle.pcap_records.specs.declared.unit.Unit.{Unit}
use Rattle.pcap_records.specs.Instants.{horizon, ticks_of}
use Rattle.reassembly.specs.RecordedLines.{LineByte, Line, End}
use Rattle.reassembly.specs.LineView.{bytes_of_parts, end_view, line_of}
use Rattle.reassembly.specs.declared.line_parts.LinePart.{LinePart}
use Rattle.reassembly.specs.declared.line_parts.End as code
use Rattle.reassembly.specs.LineLaws.{IsInChunks, GoesOn, IsNotBefore, last_instant}
use Rattle.toxic_defs.specs.DeliveredLines.{DeliveredConnection}
use Rattle.segment_writer.specs.Endpoints.{connection_between, endpoints_by, IsClient}
use Rattle.segment_writer.specs.WrittenSegments.{WrittenConnection, frame_bytes, opening_turn, up_turn, down_turn, segments_before_horizon, written_turns}
use Rattle.segment_writer.specs.TimelyLines.{Climbs, LinesAreTimely}
use Rattle.segment_writer.specs.Senders.{client_in, peer_in, line_written, opening_by, opening_written, turns_written}
use Rattle.segment_writer.specs.declared.framed.Framed.{Framed}
use Rattle.segment_writer.specs.declared.senders.Sender.{Sender}
use Rattle.segment_writer.specs.declared.senders.Turn.TheVariants.{Opening, ClientLine, ServerLine}

-- ---- lines of the rule are timely

on_climbs : (last : ℕ) (bytes : List LineByte) (end : End) → GoesOn last bytes → IsNotBefore (last_instant last bytes) end → Climbs last bytes end
on_climbs last [] end on is = is
on_climbs last (b ∷ bytes) end on is = (on.0, on_climbs b.at bytes end on.2 is)

pub lines_are_timely : LinesAreTimely
lines_are_timely l is = record { climbs = by l.bytes is.chunks is.ends; short = is.short }
  where
    by : (bytes : List LineByte) → IsInChunks bytes → IsNotBefore (last_instant 0 bytes) l.end → Climbs 0 bytes l.end
    by [] chunks ends = ends
    by (b ∷ bytes) chunks ends = ((let least : 0 ≤ b.at = omega arith in least), on_climbs b.at bytes l.end chunks.1 ends)

-- ---- the opening

opening_is : (unit : Unit) (refused : Bool) (c : WrittenConnection) → opening_by refused (client_in unit c Opening) (peer_in (client_in unit c Opening) Opening) c.opened ≡ opening_turn refused (ticks_of unit) c
unfolding frame_bytes
opening_is unit true c = refl
opening_is unit false c = refl

-- ---- the client that sends in the opening is that of the connection between its endpoints

pub client_is : (s : Sender) (opened : ℕ) (d : DeliveredConnection) → IsClient s → s ≡ client_in s.unit (connection_between (endpoints_by s opened) d) Opening
client_is s opened d is = λ i. record {
  unit = s.unit;
  conn = s.conn;
  turn = is.turn i;
  is_server = is.side i;
  mac_from = s.mac_from;
  mac_to = s.mac_to;
  vlan = s.vlan;
  from = s.from;
  to = s.to;
  base = s.base;
  peer_base = s.peer_base;
}

-- ---- the three turns

pub turns_are : (client : Sender) (unit : Unit) (ticks : ℕ) (c : WrittenConnection) (up down : Line) → client ≡ client_in unit c Opening → ticks_of unit ≡ ticks → up ≡ c.client.line → down ≡ c.server.line
    → turns_written c.refused client c.opened up down ≡ written_turns ticks c
unfolding line_written frame_bytes
turns_are client unit ticks c up down client_is same up_is down_is =
    let in_time : Framed → Bool = λ x. nat_lt x.key.moment (horizon ticks) in
    let opening : opening_written c.refused (client_in unit c Opening) (peer_in (client_in unit c Opening) Opening) c.opened ≡ segments_before_horizon ticks (opening_turn c.refused ticks c) =
    ap (segments_before_horizon (ticks_of unit)) (opening_is unit c.refused c) ∙ ap (λ n. segments_before_horizon n (opening_turn c.refused n c)) same in
    let ups : line_written (client_in unit c ClientLine) c.client.line c.server.line ≡ segments_before_horizon ticks (up_turn ticks c) = ap (λ n. segments_before_horizon n (up_turn n c)) same in
    let downs : line_written (peer_in (client_in unit c Opening) ServerLine) c.server.line c.client.line ≡ segments_before_horizon ticks (down_turn ticks c) = ap (λ n. segments_before_horizon n (down_turn n c)) same in
    (λ i. turns_written c.refused (client_is i) c.opened (up_is i) (down_is i))
    ∙ ap₂ (λ xs ys. xs ++ ys) (ap₂ (λ xs ys. xs ++ ys) opening ups ∙ sym (filter-append in_time (opening_turn c.refused ticks c) (up_turn ticks c))) downs
    ∙ sym (filter-append in_time (opening_turn c.refused ticks c ++ up_turn ticks c) (down_turn ticks c))

-- parts with the bytes of a line, and its end
pub line_is : (parts : List LinePart) (ended : code.End) (l : Line) → bytes_of_parts parts ≡ l.bytes → end_view ended ≡ l.end → line_of parts ended ≡ l
line_is parts ended l bytes ends = λ i. record { bytes = bytes i; end = ends i }
