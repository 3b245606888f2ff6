use Rattle.std.proofs.Common.{◌≡◌, map, take}
use Rattle.conn_workers.specs.RowShares.{seen_of_recording}
use Rattle.conn_workers.proofs.summaries.seen_conns.Given as goal

abbrev pub invariant-loop-recording : goal.invariant-loop-recording
invariant-loop-recording l = l.conns.items ≡ map seen_of_recording (take l.recording-index l.recordings)
