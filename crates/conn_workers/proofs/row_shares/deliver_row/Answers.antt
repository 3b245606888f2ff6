use Rattle.std.proofs.Common.{sym, subst}
use Rattle.std.proofs.lemmas.Result.{IfOk-weaker}
use Rattle.conn_workers.specs.RowShares.{HoldRow}
use Rattle.conn_workers.proofs.row_shares.deliver_row.Goals as goal

pub returns : goal.returns
returns g c =
    IfOk-weaker c.work_all.result _ _
    (λ v e. subst (HoldRow c.args.seed (c.args.number, c.args.scenario.now) c.args.recordings.now) (sym e) c.of-jobs.ensures) c.work_all.ensures
