use Rattle.std.proofs.Common.{◌≡◌, ◌<◌, ◌+◌, List, ◌++◌, filter, length, get_or, map, ap, ◌∙◌, subst, arith}
use Rattle.toxic_defs.specs.DeliveredLines.{MetProxy}
use Rattle.scenarios.specs.declared.proxies.Proxy.{Proxy}
use Rattle.conn_workers.specs.Recordings.{met_of}
use Rattle.effects.specs.EffectCounts.{Replayed, counts_in, meets, scenario_counts}
use Rattle.effects.specs.Marks.{marks_of, replay}
use Rattle.effects.proofs.MarkedCounts.{proxy_is}
use Rattle.effects.proofs.Numbered.{all_of, one_more}
use Rattle.effects.proofs.marks.Under.put_counts.Goals as goal

pub loop-number-preserved : goal.loop-number-preserved
loop-number-preserved c =
    let own = c.args.self.now in
    let n = c.loop-number.number in
    let proxies : List Proxy = own.scenario.now in
    let proxy : Proxy = c.proxy-item.result in
    let list = c.proxies-proxy-items.ensures.list in
    let all : List Replayed = map replay c.args.recordings.now in
    let conns : List Replayed = filter (meets proxies n) all in
    let before = c.loop-number.counts.items in
    let met : MetProxy = record { number = n; enabled = proxy.enabled; up = c.as_slice.result.now; down = c.as_slice-in-loop-number.result.now } in
    let is : met ≡ met_of (n, proxy) = λ i. record { number = n; enabled = proxy.enabled; up = c.as_slice.ensures i; down = c.as_slice-in-loop-number.ensures i } in
    let marks = c.deref-in-loop-number.ensures.value ∙ c.in_ok-marks.ensures ∙ ap (λ (m : MetProxy). map (marks_of own.seed own.number m) conns) is in
    one_more (counts_in own.seed own.number proxies all) proxies c.args.counts.now.items n proxy before c.put_proxy.new.counts.items
    (subst (λ (ps : List Proxy). n < length ps) list c.loop-number-test.true)
    (c.proxy-item.is ∙ ap (λ (ps : List Proxy). get_or ps n proxy) list)
    c.loop-number.invariant
    (c.in_ok-put_proxy.ensures ∙ ap (λ ns. before ++ ns) (proxy_is own.seed own.number (met_of (n, proxy)) conns _ _ marks (ap (λ (m : MetProxy). length m.up + length m.down) is)))

pub returns : goal.returns
unfolding scenario_counts
returns c =
    let proxies : List Proxy = c.args.self.now.scenario.now in
    let list = c.proxies-proxy-items.ensures.list in
    c.loop-number.invariant
    ∙ all_of (counts_in c.args.self.now.seed c.args.self.now.number proxies (map replay c.args.recordings.now)) proxies c.args.counts.now.items c.loop-number.number (omega (arith, c.loop-number-test.false, ap length list))
