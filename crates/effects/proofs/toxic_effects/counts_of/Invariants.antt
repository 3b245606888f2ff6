use Rattle.std.proofs.Common.{◌≡◌, [], map}
use Rattle.effects.specs.EffectCounts.{scenario_counts}
use Rattle.effects.specs.Marks.{replay}
use Rattle.effects.proofs.Numbered.{so_far}
use Rattle.effects.proofs.toxic_effects.counts_of.Given as goal

abbrev pub invariant-loop-number : goal.invariant-loop-number
invariant-loop-number l = l.counts.items ≡ so_far (scenario_counts l.seed (map replay l.recordings)) l.scenarios [] l.number
