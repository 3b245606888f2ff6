use Rattle.std.proofs.Common.{◌≡◌, map, take}
use Rattle.conn_workers.specs.Recordings.{RecordingView, recordings_of, recorded_delivered}
use Rattle.closed_loop.specs.Scripts.{hearing_of}
use Rattle.closed_loop.proofs.rehearsing.hear_each.Given as goal

abbrev pub invariant-loop-i : goal.invariant-loop-i
invariant-loop-i l =
    l.hearings.items ≡ map (λ (r : RecordingView). hearing_of (recorded_delivered l.toxics.seed (0, l.toxics.scenario.now) r)) (take l.i (recordings_of l.capture))
