use Rattle.std.proofs.Common.{ap, ◌∙◌}
use Rattle.toxicap.proofs.OutputSteps.{counts_are}
use Rattle.toxicap.proofs.rehearsal.gathered_output.Goals as goal

pub report-requires-clause-counts : goal.report-requires-clause-counts
report-requires-clause-counts c = ap (λ t. t.counts) c.requires.table ∙ counts_are c.args.capture.now
