use Rattle.std.proofs.Common.{ℕ, ◌≡◌, ◌<◌, ◌≤◌, List, [], ◌∷◌, ◌++◌, get_or, length, ap, ap₂, sym, ◌∙◌, arith}
use Rattle.std.proofs.lemmas.List.{take_all, take_more}
use Rattle.scenarios.specs.declared.proxies.Proxy.{Proxy}
use Rattle.conn_workers.specs.RowShares.{texts_under, row_text}
use Rattle.conn_workers.proofs.ShareSteps.{length-texts_under, text_at}
use Rattle.conn_workers.proofs.scenario_texts.share_of.Goals as goal

pub loop-number-preserved : goal.loop-number-preserved
loop-number-preserved c =
    let recordings = c.args.recordings.now in
    let all : List (List ℕ) = texts_under c.args.seed c.args.scenarios.now recordings in
    let number = c.loop-number.number in
    let below : number < length all = omega (arith, c.loop-number-test.true, length-texts_under c.args.seed c.args.scenarios.now recordings) in
    let under = c.of-under.result in
    let is = c.of-under.ensures in
    let own : c.in_ok-text.text ≡ get_or all number [] =
    c.in_ok-text.ensures ∙ ap (λ (seed : ℕ). row_text seed (under.number, under.scenario.now) recordings) is.seed
    ∙ ap₂ (λ (n : ℕ) (proxies : List Proxy). row_text c.args.seed (n, proxies) recordings) is.number (is.scenario ∙ c.index-scenarios-number.is)
    ∙ sym (text_at c.args.seed c.args.scenarios.now recordings number c.index-scenarios-number.result c.loop-number-test.true) in
    c.in_ok-push.ensures.items ∙ ap₂ (λ (xs : List (List ℕ)) (x : List ℕ). xs ++ x ∷ []) c.loop-number.invariant own ∙ sym (take_more all number [] below)

pub returns : goal.returns
returns c =
    let all : List (List ℕ) = texts_under c.args.seed c.args.scenarios.now c.args.recordings.now in
    let over : length all ≤ c.loop-number.number = omega (arith, c.loop-number-test.false, length-texts_under c.args.seed c.args.scenarios.now c.args.recordings.now) in
    let texts = c.of.ensures ∙ c.loop-number.invariant ∙ take_all c.loop-number.number all over in
    λ i. record { texts = texts i; connections = c.in_ok-connections.ensures i }
