use Rattle.std.proofs.Common.{◌≡◌, ◌+◌, ◌<◌, true, IfOk, sym, subst, arith}
use Rattle.job_matrix.specs.Boards.{worth}
use Rattle.job_matrix.specs.Trays.{AreDone}
use Rattle.job_matrix.proofs.FilledTrays.{both_done}
use Rattle.job_matrix.proofs.workers.+fn-spread-join+arg3+spread.Goals as goal

pub returns-clause-done : goal.returns-clause-done
returns-clause-done g t c =
    let values = g.W.Work.values c.args.shared.now.work.now in
    let own = c.join-pass.result.0 in
    let others = c.join-pass.result.1 in
    let told = others.0.told + worth own.0.told in
    subst (λ s. IfOk c.append_jobs.result (λ v. AreDone values s.jobs v.items × 0 < s.told)) (sym c.take_back-2.ensures)
    (both_done (λ v. v.items) values others.0.jobs own.0.jobs (0 < others.0.told) (own.0.told ≡ true) (0 < told) c.append_jobs.result others.1 own.1
    c.append_jobs.ensures c.join-pass.ensures.second.3 c.join-pass.ensures.first.1 (λ some. omega (arith, some)))
