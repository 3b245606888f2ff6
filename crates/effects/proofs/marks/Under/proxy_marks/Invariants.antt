use Rattle.std.proofs.Common.{◌≡◌, filter, map, take}
use Rattle.toxic_defs.specs.DeliveredLines.{met_view}
use Rattle.effects.specs.EffectCounts.{meets}
use Rattle.effects.specs.Marks.{marks_of, replay}
use Rattle.effects.proofs.marks.Under.proxy_marks.Given as goal

abbrev pub invariant-loop-i : goal.invariant-loop-i
invariant-loop-i l =
    l.marks.items ≡ map (marks_of l.self.seed l.self.number (met_view l.met)) (filter (meets l.self.scenario.now l.met.number) (map replay (take l.i l.recordings)))
