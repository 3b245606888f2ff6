use Rattle.std.proofs.Common.{length, sym, ap, ◌∙◌}
use Rattle.conn_workers.proofs.RowLemmas.{as_many_recorded}
use Rattle.conn_workers.proofs.jobs.LineJobs.of.Goals as goal

pub invariant_of-result : goal.invariant_of-result
invariant_of-result c =
    let conns = c.conns.ensures ∙ ap (λ t. t.conns) c.requires in
    record { shown = conns; each = ap length conns ∙ sym (as_many_recorded c.args.capture.now) }
