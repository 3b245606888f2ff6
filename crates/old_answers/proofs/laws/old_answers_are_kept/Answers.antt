use Rattle.old_answers.proofs.AnswersKept.{old_answers_are_kept}
use Rattle.old_answers.proofs.laws.old_answers_are_kept.Goals as goal

pub returns : goal.returns
returns c = old_answers_are_kept c.readings_split.ensures
