use Rattle.toxic_defs.specs.SessionCut.{cut_line}
use Rattle.toxic_defs.proofs.session_cut.cut_both.Goals as goal

pub returns-clause-up : goal.returns-clause-up
unfolding cut_line
returns-clause-up c = rw (c.first_closing-closing.ensures, c.end.ensures, c.end-2.ensures) at c.cut_at-up.ensures.line

pub returns-clause-down : goal.returns-clause-down
unfolding cut_line
returns-clause-down c = rw (c.requires.one_unit, c.first_closing-closing.ensures, c.end.ensures, c.end-2.ensures) at c.cut_at-down.ensures.line
