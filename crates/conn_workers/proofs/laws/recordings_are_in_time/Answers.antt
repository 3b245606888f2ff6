use Rattle.conn_workers.proofs.MadeOfRecorded.{connections_in_time, recordings_in_time}
use Rattle.conn_workers.proofs.laws.recordings_are_in_time.Goals as goal

pub returns : goal.returns
returns c =
    let all = connections_in_time c.recorded_sides_are_lines.ensures c.recorded_sides_lie_between.ensures c.connections_are_in_time.ensures c.args.capture.now c.bytes.ensures.sound in
    record { recordings = recordings_in_time c.indexed_connections_agree.ensures c.args.capture.now all; connections = all }
