use Rattle.std.proofs.Common.{◌≡◌, ap, ◌∙◌, refl}
use Rattle.std.proofs.lemmas.Result.{IfOk-weaker}
use Rattle.pcap_records.specs.Instants.{ticks_of}
use Rattle.reassembly.specs.RecordedView.{recorded_view}
use Rattle.toxic_defs.specs.DeliveredLines.{DeliveredConnection, delivered_view}
use Rattle.segment_writer.specs.Endpoints.{EndpointsView, connection_between, endpoints_by, endpoints_of}
use Rattle.segment_writer.specs.WrittenSegments.{sorted_by_key, written_segments}
use Rattle.segment_writer.specs.declared.senders.Sender.{Sender}
use Rattle.segment_writer.proofs.WholeSegments.{client_is, lines_are_timely, turns_are}
use Rattle.segment_writer.proofs.connection_segments.segments.Goals as goal

pub joined_turns-requires-clause-up : goal.joined_turns-requires-clause-up
joined_turns-requires-clause-up c = lines_are_timely c.args.delivered.up.line c.requires.up

pub joined_turns-requires-clause-down : goal.joined_turns-requires-clause-down
joined_turns-requires-clause-down c = lines_are_timely c.args.delivered.down.line c.requires.down

pub returns : goal.returns
unfolding written_segments
returns c =
    let d : DeliveredConnection = delivered_view c.args.delivered in
    let client : Sender = c.endpoints.inside.client in
    let opened = c.endpoints.inside.opened in
    let ends : endpoints_by client opened ≡ endpoints_of c.args.recorded.now.up.ticks c.args.conn.now (recorded_view c.args.recorded.now) = c.endpoints.view_is ∙ c.of-endpoints.ensures in
    let turns = turns_are client client.unit (ticks_of client.unit) (connection_between (endpoints_by client opened) d) d.up d.down (client_is client opened d c.endpoints.invariant) refl refl refl in
    IfOk-weaker c.joined_turns.result _ _ (λ list is. is ∙ ap sorted_by_key turns ∙ ap (λ (e : EndpointsView). written_segments e.ticks (connection_between e d)) ends) c.joined_turns.ensures
