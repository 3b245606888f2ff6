use Rattle.std.proofs.Common.{ℕ, ◌<◌, length, get_or, sym, ap, ap₂, ◌∙◌, subst, arith}
use Rattle.std.proofs.lemmas.List.{get_or-map}
use Rattle.conn_table.specs.declared.conns.Conn.{Conn}
use Rattle.reassembly.specs.RecordedLines.{RecordedConnection}
use Rattle.reassembly.specs.RecordedView.{IsConnOf, recorded_view}
use Rattle.conn_workers.specs.Recordings.{whole_connections, RecordingView, recording_in}
use Rattle.conn_workers.proofs.TableConnections.{here, in_connections, conn_here, is_of_capture, connection_of_capture}
use Rattle.conn_workers.proofs.jobs.LineJobsWork.value.Goals as goal

pub lines-requires : goal.lines-requires
lines-requires c =
    let work = c.args.self.now in
    let inside : c.args.job < length work.conns.now = omega (arith, c.requires, work.each) in
    subst (IsConnOf work.capture.now) c.index-self-job.is
    (is_of_capture work.capture.now work.conns.now work.shown c.args.job inside c.conns_are_of_capture.ensures c.index-self-job.result c.index-self-job.is)

pub returns : goal.returns
returns c = λ other.
    let work = c.args.self.now in
    let capture = work.capture.now in
    let inside : c.args.job < length work.conns.now = omega (arith, c.requires, work.each) in
    let at = here capture work.conns.now work.shown c.args.job inside in
    let within = in_connections capture work.conns.now work.shown c.args.job inside in
    let of_capture = connection_of_capture capture work.conns.now work.shown c.args.job inside c.connections_are_of_capture.ensures in
    let shown = sym c.index-self-job.is ∙ conn_here capture work.conns.now work.shown c.args.job inside c.index-self-job.result c.index-self-job.is in
    let recorded = c.in_ok-recorded.ensures.value at.item of_capture shown in
    let is = get_or-map (recording_in capture) (whole_connections capture) c.args.job at.item other within ∙ ap (recording_in capture) (at.read at.item) in
    ap (λ (t : ℕ). let v : RecordingView = record { ticks = t; conn = get_or work.conns.now c.args.job c.index-self-job.result; recorded = recorded_view c.in_ok-recorded.recorded } in v) c.in_ok-recorded.ensures.up_ticks
    ∙ ap₂ (λ (x : Conn) (r : RecordedConnection). let v : RecordingView = record { ticks = capture.ticks; conn = x; recorded = r } in v) shown recorded ∙ sym is
