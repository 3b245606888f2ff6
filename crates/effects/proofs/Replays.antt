-- Connections by what is recorded of them, against the connections of the definition.
use Rattle.std.proofs.Common.{◌≡◌, List, map, refl, sym, ap, ◌∙◌}
use Rattle.std.proofs.Math.Path.{fun_ext}
use Rattle.std.proofs.lemmas.Simd.{map-map}
use Rattle.pcap_records.specs.CaptureView.{CaptureView}
use Rattle.conn_table.specs.Connections.{Connection}
use Rattle.conn_table.specs.IndexedConnections.{IndexedConnection, without_indices}
use Rattle.conn_workers.specs.Recordings.{whole_connections, contribution, recording_in, recordings_of}
use Rattle.conn_workers.specs.DeliveryLaws.{TablesAreWhole, table_connections}
use Rattle.effects.specs.EffectCounts.{Replayed, replayed}
use Rattle.effects.specs.Marks.{replay}

replay_is : (c : CaptureView) (x : IndexedConnection) → replay (recording_in c x) ≡ replayed c.ticks (without_indices x)
unfolding contribution
replay_is c x = refl

pub replays_are : TablesAreWhole → (c : CaptureView) → map replay (recordings_of c) ≡ map (replayed c.ticks) (table_connections c)
replays_are whole c =
    map-map replay (recording_in c) (whole_connections c)
    ∙ ap (λ (f : IndexedConnection → Replayed). map f (whole_connections c)) (fun_ext (replay_is c))
    ∙ sym (map-map (replayed c.ticks) without_indices (whole_connections c)) ∙ ap (λ (cs : List Connection). map (replayed c.ticks) cs) (whole c).connections
