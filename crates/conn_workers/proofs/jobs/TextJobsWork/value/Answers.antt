use Rattle.std.proofs.Common.{ap, ◌∙◌}
use Rattle.std.proofs.lemmas.Result.{IfOk-weaker}
use Rattle.conn_workers.specs.Recordings.{recordings_of}
use Rattle.conn_workers.specs.RowShares.{share_of}
use Rattle.conn_workers.proofs.ShareSteps.{by_range}
use Rattle.conn_workers.proofs.jobs.TextJobsWork.value.Goals as goal

pub returns : goal.returns
returns c =
    let work = c.args.self.now in
    let made = share_of work.seed work.scenarios.now in
    IfOk-weaker c.share_of.result _ _
    (λ v e other. e ∙ ap made (c.deref.ensures.value ∙ c.in_ok-recordings.ensures) ∙ rw c.first-first.ensures.first (by_range made work.ranges.size work.ranges.count (recordings_of work.lines.capture.now) c.args.job other c.requires))
    c.share_of.ensures
