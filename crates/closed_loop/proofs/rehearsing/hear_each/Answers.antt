use Rattle.std.proofs.Common.{◌≡◌, ◌∙◌, ◌<◌, ◌≤◌, ◌++◌, [], ◌∷◌, ℕ, List, length, map, take, sym, ap, ap₂, subst, arith}
use Rattle.std.proofs.lemmas.List.{take_all, map-append}
use Rattle.conn_table.specs.declared.conns.Conn.{Conn}
use Rattle.conn_table.specs.Tables.{TableView}
use Rattle.conn_workers.specs.Recordings.{RecordingView, recordings_of, recorded_delivered}
use Rattle.closed_loop.specs.Scripts.{HearingView, hearing_of}
use Rattle.closed_loop.proofs.TableLines.{as_many, next}
use Rattle.closed_loop.proofs.rehearsing.hear_each.Goals as goal

pub loop-i-preserved : goal.loop-i-preserved
loop-i-preserved c =
    let rs : List RecordingView = recordings_of c.args.capture.now in
    let i : ℕ = c.loop-i.i in
    let len : length c.conns-count.result.now ≡ length rs = ap length c.conns-count.ensures ∙ ap (λ (t : TableView). length t.conns) c.requires ∙ sym (as_many c.args.capture.now) in
    let within : i < length rs = omega (arith, len, c.loop-i-test.true) in
    let n = next rs i within in
    c.in_ok-push.ensures.items
    ∙ ap₂ (λ (a : List HearingView) (b : HearingView). a ++ b ∷ []) c.loop-i.invariant (c.in_ok-heard_of.ensures n.item n.at)
    ∙ sym (ap (map (λ (r : RecordingView). hearing_of (recorded_delivered c.args.toxics.seed (0, c.args.toxics.scenario.now) r))) n.taken
    ∙ map-append (λ (r : RecordingView). hearing_of (recorded_delivered c.args.toxics.seed (0, c.args.toxics.scenario.now) r)) (take i rs) (n.item ∷ []))

pub returns : goal.returns
returns c =
    let rs : List RecordingView = recordings_of c.args.capture.now in
    let len : length c.conns-count.result.now ≡ length rs = ap length c.conns-count.ensures ∙ ap (λ (t : TableView). length t.conns) c.requires ∙ sym (as_many c.args.capture.now) in
    let all : length rs ≤ c.loop-i.i = omega (arith, len, c.loop-i-test.false) in
    c.loop-i.invariant ∙ ap (map (λ (r : RecordingView). hearing_of (recorded_delivered c.args.toxics.seed (0, c.args.toxics.scenario.now) r))) (take_all c.loop-i.i rs all)
