use Rattle.std.proofs.Common.{◌≡◌, ◌∙◌, ◌<◌, refl, sym, ap, length, List, subst, arith}
use Rattle.std.proofs.lemmas.Option.{slice_get_read}
use Rattle.conn_table.specs.declared.conns.Conn.{Conn}
use Rattle.conn_table.specs.Tables.{TableView}
use Rattle.conn_workers.specs.Recordings.{whole_table, RecordingView}
use Rattle.reassembly.specs.RecordedView.{IsConnOf}
use Rattle.closed_loop.proofs.TableLines.{is_of_capture, at_place}
use Rattle.closed_loop.proofs.rehearsing.recorded_of.Goals as goal

pub lines-requires : goal.lines-requires
lines-requires c =
    let conns : List Conn = c.conns-conns.result.now in
    let shown : conns ≡ (whole_table c.args.capture.now).conns = c.conns-conns.ensures ∙ ap (λ (t : TableView). t.conns) c.requires.table in
    let within : c.args.i < length conns = subst (λ (xs : List Conn). c.args.i < length xs) (sym c.conns-conns.ensures) c.requires.within in
    is_of_capture c.args.capture.now conns c.args.i c.index-conns-i.result shown c.conns_are_of_capture.ensures within c.index-conns-i.is

pub returns-clause-value : goal.returns-clause-value
returns-clause-value c = λ x at.
    let conns : List Conn = c.conns-conns.result.now in
    let shown : conns ≡ (whole_table c.args.capture.now).conns = c.conns-conns.ensures ∙ ap (λ (t : TableView). t.conns) c.requires.table in
    let within : c.args.i < length conns = subst (λ (xs : List Conn). c.args.i < length xs) (sym c.conns-conns.ensures) c.requires.within in
    let s = at_place c.args.capture.now conns c.args.i c.index-conns-i.result x shown c.connections_are_of_capture.ensures
    (slice_get_read conns (length conns) c.args.i c.index-conns-i.result refl within c.index-conns-i.is) at in
    c.in_ok-recorded.ensures.value s.connection s.of_capture s.shown ∙ sym (ap (λ (r : RecordingView). r.recorded) s.recording)
