use Rattle.std.proofs.Common.{◌≡◌, ◌∷◌, [], ◌++◌, refl, ap, arith}
use Rattle.std.proofs.lemmas.Grind.{common_steps}
use Rattle.job_matrix.proofs.FilledTrays.{done_append}
use Rattle.job_matrix.proofs.Sums.{above_all, above_all-append, above_all-le}
use Rattle.job_matrix.proofs.workers.do_jobs.Goals as goal

pub claims-preserved : goal.claims-preserved
claims-preserved g c =
    let job = c.in-Some.job in
    let pushed : c.push.new.self.items ≡ c.claims.done.items ++ (job, c.in-Ok.value) ∷ [] = grind (arith, common_steps, c.push.ensures.items, c.if-is_err.ensures.value, c.if-is_err.ensures.negation) in
    record {
      board = c.in-Some.ensures.board;
      done = rw (pushed, c.in-Some.ensures.some.0) (done_append (g.W.Work.values c.args.shared.now.work.now) c.claims.pass.jobs (job ∷ []) c.claims.done.items ((job, c.in-Ok.value) ∷ []) c.claims.invariant.done (refl, (c.in-Ok.ensures, tt)));
    }

pub claims-smaller : goal.claims-smaller
claims-smaller g c =
    let claim = c.in-Some.ensures in
    let more = ap above_all claim.some.0 in
    omega (arith, more, above_all-append c.claims.pass.jobs c.in-Some.job, above_all-le c.claims.pass.jobs c.in-Some.job claim.above, claim.within)
