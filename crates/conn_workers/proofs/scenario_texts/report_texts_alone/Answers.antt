use Rattle.std.proofs.Common.{sym, subst}
use Rattle.std.proofs.lemmas.Result.{IfOk-weaker}
use Rattle.conn_workers.specs.Recordings.{recordings_of}
use Rattle.conn_workers.specs.RowShares.{HoldLines}
use Rattle.conn_workers.proofs.scenario_texts.report_texts_alone.Goals as goal

pub returns : goal.returns
returns c =
    IfOk-weaker c.work_alone.result _ _
    (λ v e. subst (HoldLines c.args.seed c.args.scenarios.now (recordings_of c.args.capture.now)) (sym e) c.of-jobs.ensures) c.work_alone.ensures
