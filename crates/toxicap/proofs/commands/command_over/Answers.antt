use Rattle.std.proofs.Common.{◌≡◌, ℕ, List, Option, OnOk, Ok, Err, Result, refl, ap, sym, subst, ◌∙◌}
use Rattle.toxicap.specs.{Asked, RunSummary, ReadFilesView, RunFault, of_run, SweptAfter, SweptFor, without_value}
use Rattle.toxicap.proofs.commands.command_over.Goals as goal

same_fault : (run : Result RunSummary RunFault) → without_value run ≡ without_value (of_run run)
same_fault (Ok summary) = refl
same_fault (Err fault) = refl

swept_after : (asked : Asked) (run : Result RunSummary RunFault) (Swept : List ℕ → ReadFilesView → Type 0)
    → OnOk run (SweptFor asked.out Swept) → SweptAfter (Ok asked) (of_run run) Swept
swept_after asked (Ok summary) Swept swept = swept
swept_after asked (Err fault) Swept swept = tt

pub returns-in-Ok-clause-ends : goal.returns-in-Ok-clause-ends
returns-in-Ok-clause-ends g c =
    let ran = c.run_asked.ensures in
    let told = c.report_outcome.ensures in
    let outcome : c.of_run-outcome.result ≡ of_run c.run_asked.result = c.of_run-outcome.ensures in
    let same = same_fault c.run_asked.result ∙ ap without_value (sym outcome) in (
      Ok c.in-Ok.asked,
      c.in-Ok.ensures,
      ((c.run_asked.result, outcome, ran.runs), told.status, told.told),
      rw same at ran.failed_calls,
      ran.inputs,
      subst (λ (o : Result (Option RunSummary) RunFault). SweptAfter (Ok c.in-Ok.asked) o (g.D.Disk.is_swept c.run_asked.new.disk)) (sym outcome)
          (swept_after c.in-Ok.asked c.run_asked.result _ ran.swept),
    )
