-- The scripts so far, and those of the connections that are left, are all.
use Rattle.std.proofs.Common.{◌≡◌, ◌++◌, map, drop}
use Rattle.conn_workers.specs.Recordings.{RecordingView, recordings_of}
use Rattle.closed_loop.specs.Scripts.{scripts_of}
use Rattle.closed_loop.proofs.whole.scripts_of.Given as goal

abbrev pub invariant-loop-i : goal.invariant-loop-i
invariant-loop-i l =
    l.scripts.items ++ scripts_of l.making.manners l.making.recorded.now (drop l.i l.conns) (map (λ (r : RecordingView). r.recorded) (drop l.i (recordings_of l.numbered)))
    ≡ scripts_of l.making.manners l.making.recorded.now l.conns (map (λ (r : RecordingView). r.recorded) (recordings_of l.numbered))
