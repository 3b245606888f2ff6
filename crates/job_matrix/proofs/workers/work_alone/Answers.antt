use Rattle.std.proofs.Common.{[], ◌∷◌, ◌++◌, sym, ap₂, ◌∙◌, arith}
use Rattle.std.proofs.lemmas.List.{take_more}
use Rattle.job_matrix.proofs.workers.work_alone.Goals as goal

pub loop-job-preserved : goal.loop-job-preserved
loop-job-preserved g c = record {
  values =
      c.in_ok-push.ensures.items ∙ ap₂ (λ vs v. vs ++ v ∷ []) c.loop-job.invariant.values (c.in_ok-value.ensures c.in_ok-value.value)
      ∙ sym (take_more (g.W.Work.values c.args.work.now) c.loop-job.job c.in_ok-value.value (omega (arith, c.requires, c.loop-job-test.true)));
}
