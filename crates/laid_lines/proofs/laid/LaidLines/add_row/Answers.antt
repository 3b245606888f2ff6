use Rattle.std.proofs.Common.{◌∷◌, ◌+◌, ap, drop, map, sym, ◌∙◌, arith}
use Rattle.std.proofs.lemmas.List.{drop_all, drop_more}
use Rattle.toxic_defs.specs.DeliveredLines.{DeliveredConnection}
use Rattle.conn_workers.specs.Recordings.{RecordingView}
use Rattle.laid_lines.specs.FlatLines.{FlatLines, lines_of, together}
use Rattle.laid_lines.specs.RecordedLines.{after, flat_view, lines_by}
use Rattle.laid_lines.proofs.LaidRows.{after_none, laid_one}
use Rattle.laid_lines.proofs.laid.LaidLines.add_row.Goals as goal

pub loop-recording-preserved : goal.loop-recording-preserved
loop-recording-preserved c =
    let under = c.args.under.now in
    let f : RecordingView → FlatLines = lines_by under.seed (under.number, under.scenario.now) in
    let i = c.loop-recording.recording-index in
    let all = c.args.recordings.now in
    let r : RecordingView = c.recording-item.result in
    let laid : FlatLines = flat_view c.loop-recording.self in
    let rest = drop (i + 1) all in
    let is = c.in_ok-add.ensures ∙ ap (λ (d : DeliveredConnection). after laid (lines_of r.ticks r.conn.vlan r.conn.client r.conn.server r.recorded.opened d)) c.in_ok-delivered.ensures.value in
    let here = drop_more all i r c.loop-recording-test.true ∙ ap (λ x. x ∷ rest) (sym c.recording-item.is) in
    laid_one laid (flat_view c.add.new.self) (f r) (map f rest) is ∙ ap (λ rs. after laid (together (map f rs))) (sym here) ∙ c.loop-recording.invariant

pub returns : goal.returns
returns c =
    let under = c.args.under.now in
    let f : RecordingView → FlatLines = lines_by under.seed (under.number, under.scenario.now) in
    let laid : FlatLines = flat_view c.loop-recording.self in
    let none = drop_all c.loop-recording.recording-index c.args.recordings.now (omega (arith, c.loop-recording-test.false)) in
    sym (after_none laid) ∙ ap (λ rs. after laid (together (map f rs))) (sym none) ∙ c.loop-recording.invariant
