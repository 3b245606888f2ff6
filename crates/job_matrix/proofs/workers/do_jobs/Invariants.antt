use Rattle.std.proofs.Common.{◌≡◌, ◌-◌}
use Rattle.job_matrix.specs.Trays.{AreDone}
use Rattle.job_matrix.proofs.Sums.{above_all}
use Rattle.job_matrix.proofs.workers.do_jobs.Given as goal

abbrev pub invariant-claims : goal.invariant-claims
invariant-claims g l = record {
  board : l.pass.board ≡ l.board;
  done : AreDone (g.W.Work.values l.shared.work.now) l.pass.jobs l.done.items;
}

abbrev pub decreases-claims : goal.decreases-claims
decreases-claims g l = l.board.limit - above_all l.pass.jobs
