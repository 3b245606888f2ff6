use Rattle.std.proofs.Common.{rules}
use Rattle.hints.proofs.FirstLines.{told_is_about}
use Rattle.hints.proofs.lines.about.Goals as goal

pub returns-clause-about : goal.returns-clause-about
returns-clause-about c = search (rules, told_is_about)
