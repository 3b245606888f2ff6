use Rattle.std.proofs.Common.{length, ap, ◌∙◌, arith}
use Rattle.std.proofs.lemmas.Result.{IfOk-weaker}
use Rattle.conn_workers.specs.Recordings.{recorded_deliveries}
use Rattle.conn_workers.proofs.TableConnections.{few_conns}
use Rattle.conn_workers.proofs.RowLemmas.{deliveries_are, as_many_recorded, length-recorded_deliveries}
use Rattle.conn_workers.proofs.deliveries.deliver.Goals as goal

pub invariant_of-jobs : goal.invariant_of-jobs
invariant_of-jobs g c = record { few = c.requires.few; each = length-recorded_deliveries c.args.seed c.as_slice.result.now c.args.scenarios.now }

pub prove-unreachable-requires : goal.prove-unreachable-requires
prove-unreachable-requires g c =
    let count = ap length (c.as_slice.ensures ∙ c.in_ok-recordings.ensures) ∙ as_many_recorded c.args.capture.now in
    let records = ap length c.records.ensures.records in
    omega (arith, count, records, few_conns c.args.capture.now, c.if-prove.true)

pub returns : goal.returns
returns g c =
    let scenarios = c.args.scenarios.now in
    let recorded = c.as_slice.ensures ∙ c.in_ok-recordings.ensures in
    IfOk-weaker c.work_all.result _ _
    (λ v is. is ∙ ap (λ rs. recorded_deliveries c.args.seed rs scenarios) recorded ∙ deliveries_are c.indexed_connections_agree.ensures c.args.seed c.args.capture.now scenarios)
    c.work_all.ensures
