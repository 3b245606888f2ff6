use Rattle.run_files.proofs.LoadedTexts.{failed_after, is_past, more_came}
use Rattle.run_files.proofs.inputs.OpenFileInput.read_more.Goals as goal

pub returns-in-Ok-clause-came : goal.returns-in-Ok-clause-came
returns-in-Ok-clause-came g c = λ bytes before came.
    more_came _ _ _ bytes c.read.new.room _ _ c.in-Ok.ensures.same came c.in-Ok.len c.in-Ok.ensures.contents c.in-Ok.ensures.place

pub returns-in-Ok-clause-at_end : goal.returns-in-Ok-clause-at_end
returns-in-Ok-clause-at_end g c = λ none some.
    is_past _ _ c.read.new.room _ _ c.in-Ok.len c.in-Ok.ensures.same c.in-Ok.ensures.contents c.in-Ok.ensures.place none some

pub returns-in-Err-clause-failed : goal.returns-in-Err-clause-failed
returns-in-Err-clause-failed g c = λ before bytes came.
    failed_after _ _ _ bytes c.read.new.room _ _ c.in-Err.ensures.same came c.in-Err.field-0 c.in-Err.ensures.contents c.in-Err.ensures.as_before
