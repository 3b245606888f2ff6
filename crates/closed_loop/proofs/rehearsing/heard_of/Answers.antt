use Rattle.std.proofs.Common.{◌≡◌, ◌∙◌, ◌<◌, refl, sym, ap, ap₂, length, List, Option, option_map, subst, arith}
use Rattle.std.proofs.lemmas.Option.{slice_get_read}
use Rattle.conn_table.specs.declared.conns.Conn.{Conn}
use Rattle.conn_table.specs.Tables.{TableView}
use Rattle.reassembly.specs.RecordedView.{recorded_view}
use Rattle.toxic_defs.specs.DeliveredLines.{delivered_connection, met_view}
use Rattle.conn_workers.specs.Recordings.{whole_table, met_proxy, RecordingView}
use Rattle.closed_loop.specs.Scripts.{hearing_of}
use Rattle.closed_loop.proofs.TableLines.{at_place}
use Rattle.closed_loop.proofs.rehearsing.heard_of.Goals as goal

pub returns : goal.returns
returns c = λ x at.
    let conns : List Conn = c.conns-conns.result.now in
    let conn : Conn = c.index-conns-i.result in
    let shown : conns ≡ (whole_table c.args.capture.now).conns = c.conns-conns.ensures ∙ ap (λ (t : TableView). t.conns) c.requires.table in
    let within : c.args.i < length conns = subst (λ (xs : List Conn). c.args.i < length xs) (sym c.conns-conns.ensures) c.requires.within in
    let s = at_place c.args.capture.now conns c.args.i conn x shown c.connections_are_of_capture.ensures
    (slice_get_read conns (length conns) c.args.i conn refl within c.index-conns-i.is) at in
    let conn_is : x.conn ≡ conn = ap (λ (r : RecordingView). r.conn) s.recording ∙ sym s.shown in
    let ticks_is : x.ticks ≡ c.args.capture.now.ticks = ap (λ (r : RecordingView). r.ticks) s.recording in
    let up_ticks : c.in_ok-recorded.recorded.up.ticks ≡ c.args.capture.now.ticks = c.in_ok-recorded.ensures.up_ticks in
    let lines_is : recorded_view c.in_ok-recorded.recorded ≡ x.recorded = c.in_ok-recorded.ensures.value x at in
    let met_is : option_map met_view c.met_proxy-met.result ≡ met_proxy conn.server c.args.toxics.scenario.now = c.met_proxy-met.ensures.met in
    let same : delivered_connection c.in_ok-recorded.recorded.up.ticks c.args.toxics.seed 0 conn.number (option_map met_view c.met_proxy-met.result) (recorded_view c.in_ok-recorded.recorded)
    ≡ delivered_connection x.ticks c.args.toxics.seed 0 x.conn.number (met_proxy x.conn.server c.args.toxics.scenario.now) x.recorded
    = rw (up_ticks, met_is, lines_is, conn_is, ticks_is) refl in
    c.in_ok-heard.ensures ∙ ap hearing_of (c.in_ok-delivered.ensures.value ∙ same)
