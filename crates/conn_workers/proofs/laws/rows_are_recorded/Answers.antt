use Rattle.std.proofs.Common.{ℕ, List, sym, subst}
use Rattle.std.specs.List.{AllByRecursion}
use Rattle.scenarios.specs.declared.proxies.Proxy.{Proxy}
use Rattle.conn_workers.specs.DeliveryLaws.{IsOfRecorded}
use Rattle.conn_workers.proofs.MadeOfRecorded.{Theorems, row_is_recorded}
use Rattle.conn_workers.proofs.laws.rows_are_recorded.Goals as goal

pub returns : goal.returns
returns c =
    let laws : Theorems = record { delivered = c.delivered_is_recorded.ensures; cut = c.cut_lines_end_in_time.ensures; first = c.delayed_bytes_are_the_first.ensures } in
    let view = c.args.capture.now in
    let under : ℕ × List Proxy = (c.args.number, c.args.scenario.now) in
    subst (λ ds. AllByRecursion (IsOfRecorded view c.args.seed under) ds) (sym (c.rows_are_contributed.ensures c.args.seed view under))
    (row_is_recorded laws view c.args.seed under c.proxies.ensures.sound c.recordings_are_in_time.ensures.connections)
