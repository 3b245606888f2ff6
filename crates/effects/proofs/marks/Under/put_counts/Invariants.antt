use Rattle.std.proofs.Common.{◌≡◌, map}
use Rattle.effects.specs.EffectCounts.{counts_in}
use Rattle.effects.specs.Marks.{replay}
use Rattle.effects.proofs.Numbered.{so_far}
use Rattle.effects.proofs.marks.Under.put_counts.Given as goal

abbrev pub invariant-loop-number : goal.invariant-loop-number
invariant-loop-number l = l.counts.items ≡ so_far (counts_in l.self.seed l.self.number l.self.scenario.now (map replay l.recordings)) l.self.scenario.now l.fn.counts.items l.number
