use Rattle.std.proofs.Common.{List, length, map, ap, ◌∙◌}
use Rattle.conn_table.specs.Tables.{TableView}
use Rattle.conn_workers.specs.RowShares.{met_count, run_summary}
use Rattle.conn_workers.specs.declared.summaries.SeenConn.{SeenConn}
use Rattle.conn_workers.proofs.TableConnections.{conns_are_seen, counts_are, packets_are_all, unopened_is}
use Rattle.conn_workers.proofs.summaries.run_summary.Goals as goal

pub returns : goal.returns
unfolding run_summary
returns c =
    let capture = c.args.capture.now in
    let conns = c.requires.connections ∙ conns_are_seen c.indexed_connections_agree.ensures capture in
    let met = c.in_ok-met.ensures ∙ ap (λ (cs : List SeenConn). map (λ proxies. met_count proxies cs) c.args.scenarios.now) (c.as_slice.ensures ∙ conns) in
    let records = c.records.ensures.records in
    λ i. record {
      records = (ap length records ∙ packets_are_all capture) i;
      rest = c.rest.ensures i;
      counts = (c.counts.ensures ∙ ap (λ (t : TableView). t.counts) c.requires.table ∙ counts_are capture) i;
      unopened = (c.unopened.ensures ∙ ap (λ (t : TableView). t.unopened) c.requires.table ∙ unopened_is capture) i;
      connections = conns i;
      met = met i;
    }
