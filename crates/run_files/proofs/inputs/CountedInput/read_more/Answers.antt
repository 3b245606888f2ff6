use Rattle.std.proofs.Common.{◌∙◌, arith}
use Rattle.std.proofs.KnownBytes.{Consumes-kept, Consumes-trans}
use Rattle.run_files.proofs.inputs.CountedInput.read_more.Goals as goal

pub returns-in-Ok-clause-came : goal.returns-in-Ok-clause-came
returns-in-Ok-clause-came g c = λ bytes before came.
    (Consumes-trans _ _ _ _ _ came.0 c.in-Ok.ensures.bytes.0, c.in-Ok.ensures.failed ∙ came.1)

pub returns-in-Err-clause-failed : goal.returns-in-Err-clause-failed
returns-in-Err-clause-failed g c = λ before bytes came.
    (Consumes-kept _ _ _ _ came.0 c.in-Err.ensures.bytes, omega (arith, c.in-Err.ensures.failed, came.1))
