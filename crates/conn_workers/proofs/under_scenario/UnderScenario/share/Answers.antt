use Rattle.std.proofs.Common.{◌≡◌, ◌++◌, ℕ, List, ap, sym, take, ◌∙◌}
use Rattle.toxic_defs.specs.DeliveredLines.{delivered_view}
use Rattle.segment_writer.specs.Endpoints.{EndpointsView, connection_between}
use Rattle.segment_writer.specs.WrittenSegments.{written_segments}
use Rattle.scenarios.specs.declared.proxies.Proxy.{Proxy}
use Rattle.conn_workers.specs.Recordings.{RecordingView, recorded_delivery, recorded_delivery_by}
use Rattle.conn_workers.specs.RowShares.{row_segments}
use Rattle.conn_workers.proofs.ShareSteps.{segments_more, taken_more}
use Rattle.conn_workers.proofs.under_scenario.UnderScenario.share.Goals as goal

pub loop-recording-preserved : goal.loop-recording-preserved
loop-recording-preserved c =
    let seed : ℕ = c.args.self.now.seed in
    let s : ℕ × List Proxy = (c.args.self.now.number, c.args.self.now.scenario.now) in
    let recordings : List RecordingView = c.args.recordings.now in
    let i : ℕ = c.loop-recording.recording-index in
    let r : RecordingView = c.recording-item.result in
    let d = delivered_view c.in_ok-delivered.delivered in
    let ends : EndpointsView = c.recording.inside.endpoints in
    let own : (recorded_delivery seed s r).segments ≡ written_segments ends.ticks (connection_between ends d) =
    (λ j. (recorded_delivery_by s.0 (sym c.recording.view_is j) (sym c.in_ok-delivered.ensures.value j)).segments)
    ∙ ap (λ (e : EndpointsView). written_segments e.ticks (connection_between e d)) (sym c.recording.invariant.endpoints) in
    record {
      segments = segments_more ends.ticks (connection_between ends d) c.loop-recording.segments c.in_ok-segments-2.segments _ _ c.in_ok-segments-2.ensures c.loop-recording.invariant.segments
          (ap (λ xs. row_segments seed s (take i recordings) ++ xs) (sym own) ∙ taken_more (λ x. (recorded_delivery seed s x).segments) recordings i r c.loop-recording-test.true c.recording-item.is);
      lines = c.in_ok-delivered.ensures.line ∙ ap (λ xs. xs ++ (recorded_delivery seed s r).line) c.loop-recording.invariant.lines
          ∙ taken_more (λ x. (recorded_delivery seed s x).line) recordings i r c.loop-recording-test.true c.recording-item.is;
    }
