use Rattle.std.proofs.Common.{◌≡◌, ◌∙◌, ◌<◌, ◌≤◌, ◌+◌, ◌++◌, [], ◌∷◌, ℕ, suc, min, List, length, map, drop, sym, ap, append_assoc, append-nil, add-one, drop-cons, arith}
use Rattle.conn_table.specs.declared.conns.Conn.{Conn}
use Rattle.conn_table.specs.Tables.{TableView}
use Rattle.conn_workers.specs.Recordings.{RecordingView, recordings_of}
use Rattle.closed_loop.specs.Scripts.{ScriptView, scripts_of, script_of}
use Rattle.closed_loop.proofs.TableLines.{as_many, next, scripts_end}
use Rattle.closed_loop.proofs.whole.scripts_of.Goals as goal

pub loop-i-preserved : goal.loop-i-preserved
loop-i-preserved c =
    let rs : List RecordingView = recordings_of c.args.numbered.now in
    let conns : List Conn = c.args.conns.now in
    let i : ℕ = c.loop-i.i in
    let m = c.args.making.manners in
    let r = c.args.making.recorded.now in
    let old : List ScriptView = c.loop-i.scripts.items in
    let len : length c.conns.result.now ≡ length rs = ap length c.conns.ensures ∙ ap (λ (t : TableView). length t.conns) c.requires ∙ sym (as_many c.args.numbered.now) in
    let in_rs : i < length rs = omega (arith, len, c.loop-i-test.true, c.min-count.ensures) in
    let in_conns : i < length conns = omega (arith, c.loop-i-test.true, c.min-count.ensures) in
    let n = next rs i in_rs in
    let conn : Conn = c.index-conns-i.result in
    let left : drop i conns ≡ conn ∷ drop (i + 1) conns = rw (add-one) (drop-cons conns i conn in_conns ∙ ap (λ (x : Conn). x ∷ drop (suc i) conns) (sym c.index-conns-i.is)) in
    let rest : List ScriptView = scripts_of m r (drop (i + 1) conns) (map (λ (x : RecordingView). x.recorded) (drop (i + 1) rs)) in
    let script : ScriptView = c.in_ok-script_of.field-0 in
    let is : script ≡ script_of m r conn n.item.recorded = c.in_ok-script_of.ensures ∙ ap (script_of m r conn) (c.in_ok-lines.ensures.value n.item n.at) in
    ap (λ (xs : List ScriptView). xs ++ rest) c.in_ok-push.ensures.items ∙ append_assoc old (script ∷ []) rest
    ∙ ap (λ (q : ScriptView). old ++ q ∷ rest) is
    ∙ ap (λ (ys : List Conn). old ++ scripts_of m r ys (map (λ (x : RecordingView). x.recorded) (n.item ∷ drop (i + 1) rs))) (sym left)
    ∙ ap (λ (zs : List RecordingView). old ++ scripts_of m r (drop i conns) (map (λ (x : RecordingView). x.recorded) zs)) (sym n.left)
    ∙ c.loop-i.invariant

pub returns : goal.returns
returns c =
    let rs : List RecordingView = recordings_of c.args.numbered.now in
    let len : length c.conns.result.now ≡ length rs = ap length c.conns.ensures ∙ ap (λ (t : TableView). length t.conns) c.requires ∙ sym (as_many c.args.numbered.now) in
    let all : min (length c.args.conns.now) (length rs) ≤ c.loop-i.i = omega (arith, len, c.loop-i-test.false, c.min-count.ensures) in
    sym (append-nil _) ∙ ap (λ (xs : List ScriptView). c.loop-i.scripts.items ++ xs) (sym (scripts_end c.args.making.manners c.args.making.recorded.now c.args.conns.now rs c.loop-i.i all))
    ∙ c.loop-i.invariant
