use Rattle.std.proofs.Common.{◌≡◌, ◌∙◌, ◌++◌, List, OnOk, ap, map, refl, subst}
use Rattle.std.proofs.lemmas.Result.{on_ok_weaker}
use Rattle.pcap_records.specs.Instants.{ticks_of}
use Rattle.toxic_defs.specs.DeliveredLines.{DeliveredConnection, delivered_view}
use Rattle.segment_writer.specs.Endpoints.{connection_between, endpoints_by}
use Rattle.segment_writer.specs.OpenRows.{written_in, IsLonger}
use Rattle.segment_writer.specs.SegmentRows.{framed_at}
use Rattle.segment_writer.specs.WrittenSegments.{WrittenConnection}
use Rattle.segment_writer.specs.Senders.{turns_written}
use Rattle.segment_writer.specs.declared.framed.Framed.{Framed}
use Rattle.segment_writer.specs.declared.open_rows.OpenRow.{OpenRow}
use Rattle.segment_writer.specs.declared.senders.Sender.{Sender}
use Rattle.segment_writer.proofs.WholeSegments.{client_is, lines_are_timely, turns_are}
use Rattle.segment_writer.proofs.connection_segments.put_connection.Goals as goal

pub put_turns-requires-clause-up : goal.put_turns-requires-clause-up
put_turns-requires-clause-up c = lines_are_timely c.args.delivered.up.line c.requires.up

pub put_turns-requires-clause-down : goal.put_turns-requires-clause-down
put_turns-requires-clause-down c = lines_are_timely c.args.delivered.down.line c.requires.down

pub returns : goal.returns
returns c =
    let d : DeliveredConnection = delivered_view c.args.delivered in
    let client : Sender = c.args.client.now in
    let w : WrittenConnection = connection_between (endpoints_by client c.args.opened) d in
    let is = turns_are client client.unit (ticks_of client.unit) w d.up d.down (client_is client c.args.opened d c.requires.client) refl refl refl in
    let before : OpenRow = c.args.row.now in
    let roomy : OpenRow = c.make_room.new.row in
    let now : OpenRow = c.put_turns.new.row in
    let more : List Framed = turns_written d.refused client c.args.opened d.up d.down in
    let same : written_in roomy ≡ written_in before = ap (λ v. map (framed_at v.items) roomy.segments.items) c.make_room.ensures.gathered ∙ ap (map (framed_at before.gathered.items)) c.make_room.ensures.segments in
    let longer : IsLonger roomy more now → IsLonger before more now = λ is. record { written = is.written ∙ ap (λ had. had ++ more) same; row = is.row } in
    subst (λ xs. OnOk c.put_turns.result (IsLonger before xs now)) is (on_ok_weaker c.put_turns.result longer c.put_turns.ensures)
