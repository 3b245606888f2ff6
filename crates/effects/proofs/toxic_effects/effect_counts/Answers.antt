use Rattle.std.proofs.Common.{List, map, ap, ◌∙◌}
use Rattle.conn_workers.specs.Recordings.{RecordingView}
use Rattle.effects.specs.EffectCounts.{Replayed, effect_counts}
use Rattle.effects.specs.Marks.{replay}
use Rattle.effects.proofs.Replays.{replays_are}
use Rattle.effects.proofs.toxic_effects.effect_counts.Goals as goal

pub returns : goal.returns
returns c =
    c.of.ensures ∙ c.in_ok-counts.ensures
    ∙ ap (λ (rs : List RecordingView). effect_counts c.args.seed (map replay rs) c.args.scenarios.now) (c.as_slice.ensures ∙ c.in_ok-recordings.ensures)
    ∙ ap (λ (cs : List Replayed). effect_counts c.args.seed cs c.args.scenarios.now) (replays_are c.tables_are_whole.ensures c.args.capture.now)
