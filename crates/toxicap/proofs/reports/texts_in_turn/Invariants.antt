use Rattle.std.proofs.Common.{◌≡◌}
use Rattle.toxicap.specs.{joined, reports_below}
use Rattle.toxicap.proofs.reports.texts_in_turn.Given as goal

abbrev pub invariant-loop-number : goal.invariant-loop-number
invariant-loop-number l = joined l.texts.items ≡ reports_below l.heads l.shares l.number
