use Rattle.std.proofs.Common.{[], map, ◌∙◌, arith}
use Rattle.effects.specs.EffectCounts.{effect_counts, scenario_counts}
use Rattle.effects.specs.Marks.{replay}
use Rattle.effects.proofs.Numbered.{all_of, one_more}
use Rattle.effects.proofs.toxic_effects.counts_of.Goals as goal

pub loop-number-preserved : goal.loop-number-preserved
loop-number-preserved c =
    one_more (scenario_counts c.args.seed (map replay c.args.recordings.now)) c.args.scenarios.now [] c.loop-number.number c.index-scenarios-number.result
    c.loop-number.counts.items c.put_counts.new.counts.items c.loop-number-test.true c.index-scenarios-number.is c.loop-number.invariant c.in_ok-put_counts.ensures

pub returns : goal.returns
unfolding effect_counts
returns c =
    c.loop-number.invariant
    ∙ all_of (scenario_counts c.args.seed (map replay c.args.recordings.now)) c.args.scenarios.now [] c.loop-number.number (omega (arith, c.loop-number-test.false))
