use Rattle.std.proofs.Common.{◌<◌, ◌++◌, ◌∷◌, [], length, drop, ap₂, sym, ◌∙◌, arith}
use Rattle.std.proofs.lemmas.List.{get_or-drop, length-drop, take_more}
use Rattle.conn_workers.specs.Recordings.{recordings_of}
use Rattle.conn_workers.proofs.jobs.LineJobs.recorded.Goals as goal

pub loop-place-preserved : goal.loop-place-preserved
loop-place-preserved c =
    let all = recordings_of c.args.self.now.capture.now in
    let from = c.args.from in
    let place = c.loop-place.place in
    let within : place < length (drop from all) = omega (arith, c.loop-place-test.true, c.min-count.ensures, length-drop from all, c.args.self.now.each) in
    c.in_ok-push.ensures.items ∙ ap₂ (λ xs x. xs ++ x ∷ []) c.loop-place.invariant (c.in_ok-recording.ensures c.in_ok-recording.recording ∙ sym (get_or-drop from all place c.in_ok-recording.recording))
    ∙ sym (take_more (drop from all) place c.in_ok-recording.recording within)
