use Rattle.std.proofs.Common.{◌≡◌}
use Rattle.toxicap.specs.{heads_of}
use Rattle.toxicap.proofs.reports.report_heads.Given as goal

abbrev pub invariant-loop-number : goal.invariant-loop-number
invariant-loop-number l = l.heads.items ≡ heads_of l.capture l.number
