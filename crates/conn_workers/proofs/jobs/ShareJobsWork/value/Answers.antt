use Rattle.std.proofs.Common.{ap, ◌∙◌}
use Rattle.std.proofs.lemmas.Result.{IfOk-weaker}
use Rattle.conn_workers.specs.RowShares.{row_share}
use Rattle.conn_workers.proofs.ShareSteps.{by_range}
use Rattle.conn_workers.proofs.jobs.ShareJobsWork.value.Goals as goal

pub returns : goal.returns
returns c =
    let work = c.args.self.now in
    let made = row_share work.under.seed (work.under.number, work.under.scenario.now) in
    IfOk-weaker c.share.result _ _
    (λ v e other. e ∙ ap made c.range.ensures ∙ by_range made work.ranges.size work.ranges.count work.recordings.now c.args.job other c.requires)
    c.share.ensures
