use Rattle.std.proofs.Common.{◌∙◌, sym, ap, get_or}
use Rattle.conn_workers.proofs.Meetings.{met_none, met_some}
use Rattle.conn_workers.proofs.met_proxies.met_proxy.Goals as goal

pub returns-in_err-number-clause-met : goal.returns-in_err-number-clause-met
returns-in_err-number-clause-met c =
    rw c.from_residual.ensures (sym (met_none c.args.server c.args.scenario.now (sym c.proxy_of.ensures ∙ c.in_err-number.was)))

pub returns-clause-met : goal.returns-clause-met
returns-clause-met c =
    rw c.met_of.ensures.met
    (sym (met_some c.args.server c.args.scenario.now c.in_ok-number.number c.index-proxies-number.result
    (sym c.proxy_of.ensures ∙ c.in_ok-number.was) (c.index-proxies-number.is ∙ ap (λ ps. get_or ps c.in_ok-number.number c.index-proxies-number.result) c.proxies.ensures.list)))
