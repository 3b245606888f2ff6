use Rattle.std.proofs.Common.{sym, ap, ◌∙◌, subst}
use Rattle.reassembly.specs.LineLaws.{IsLine}
use Rattle.toxic_defs.specs.RandomWords.{word_of}
use Rattle.toxic_defs.specs.EndRule.{ended}
use Rattle.toxic_defs.specs.Toxics.{effect}
use Rattle.toxic_defs.proofs.ToxicLines.{toxics_keep_lines, applied_run, idle_run}
use Rattle.toxic_defs.proofs.running.run.Goals as goal

pub returns-in_ok-effect-clause-line : goal.returns-in_ok-effect-clause-line
returns-in_ok-effect-clause-line c =
    let does = sym c.applies.ensures ∙ c.if-applies.true in
    c.in_ok-effect.ensures.line ∙ ap (λ kind. ended (effect c.args.line.ticks (word_of c.args.key) c.args.opened kind c.args.line.line)) c.kind-kind.ensures.kind
    ∙ sym (applied_run c.args.line.ticks c.args.toxic.now c.args.key c.args.opened c.args.line.line does)

pub returns-in_ok-effect-clause-is_line : goal.returns-in_ok-effect-clause-is_line
returns-in_ok-effect-clause-is_line c =
    subst IsLine (sym (returns-in_ok-effect-clause-line c)) (toxics_keep_lines c.args.line.ticks c.args.toxic.now c.args.key c.args.opened c.args.line.line c.kind-kind.ensures.range c.requires)

pub returns-else-applies-clause-line : goal.returns-else-applies-clause-line
returns-else-applies-clause-line c = sym (idle_run c.args.line.ticks c.args.toxic.now c.args.key c.args.opened c.args.line.line (sym c.applies.ensures ∙ c.if-applies.false))
