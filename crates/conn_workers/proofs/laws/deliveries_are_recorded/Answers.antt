use Rattle.std.specs.List.{AllByRecursion}
use Rattle.std.proofs.lemmas.List.Elements.{recursion_from_All}
use Rattle.scenarios.specs.ProxyLaws.{IsSound}
use Rattle.conn_workers.proofs.MadeOfRecorded.{Theorems, deliveries_are_recorded}
use Rattle.conn_workers.proofs.laws.deliveries_are_recorded.Goals as goal

pub returns : goal.returns
returns c =
    let laws : Theorems = record { delivered = c.delivered_is_recorded.ensures; cut = c.cut_lines_end_in_time.ensures; first = c.delayed_bytes_are_the_first.ensures } in
    deliveries_are_recorded laws c.args.capture.now c.args.seed c.args.scenarios.now c.recordings_are_in_time.ensures.connections
    (recursion_from_All (AllByRecursion IsSound) c.args.scenarios.now c.all_are_sound.ensures)
