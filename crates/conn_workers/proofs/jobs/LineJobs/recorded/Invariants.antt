use Rattle.std.proofs.Common.{◌≡◌, drop, take}
use Rattle.conn_workers.specs.Recordings.{recordings_of}
use Rattle.conn_workers.proofs.jobs.LineJobs.recorded.Given as goal

abbrev pub invariant-loop-place : goal.invariant-loop-place
invariant-loop-place l = l.recordings.items ≡ take l.place (drop l.from (recordings_of l.self.capture.now))
