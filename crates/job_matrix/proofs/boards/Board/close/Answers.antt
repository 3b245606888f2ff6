use Rattle.std.proofs.Common.{◌≡◌, ℕ, ◌<◌, min, List, ap, subst, ◌∙◌, arith}
use mathlib.Core.Option.{some}
use Rattle.job_matrix.specs.declared.rules.SeatView.{SeatView}
use Rattle.job_matrix.specs.declared.rules.SeatView.TheVariants.{Leads}
use Rattle.job_matrix.specs.Counting.{times, CountsBelow}
use Rattle.job_matrix.specs.Boards.{limit_of, jobs_of, back_of, told_of}
use Rattle.job_matrix.proofs.RuleKept.{closes, word_found}
use Rattle.job_matrix.proofs.boards.Board.close.Goals as goal

-- what the table showed of the chief's numbers when it was closed
shown : (c : goal.After-min) → CountsBelow c.min.result (λ x. times x c.args.chief.jobs) × (0 < c.args.chief.told → c.min.result ≡ c.args.self.limit)
shown c =
    let s = c.chief.inside in
    let v = s.seat.me.0 in
    let end = c.close_with-closed.ensures.values.2 in
    let back : back_of v ≡ s.made = omega (arith, c.if-chief.false, c.chief.invariant.1, c.chief.invariant.2) in
    let is : v ≡ Leads (limit_of v) s.made s.made (told_of v) (jobs_of v)
    = ap (λ (m : _). m.0) c.chief.invariant.0 ∙ ap (λ (b : ℕ). Leads (limit_of v) s.made b (told_of v) (jobs_of v)) back in
    let key = c.self.inside.table.shared.key in
    let kept = end.1.0 in
    let all = closes key s.seat.id (limit_of v) s.made (told_of v) (jobs_of v) end.0.words end.0.views kept (end.1.1 ∙ ap (λ (u : SeatView). some u) is) in
    let next = word_found key c.word-next.result end.0.words _ end.0.views kept end.2 c.word-next.ensures in
    let count : min kept.next key ≡ c.min.result = omega (arith, next, c.self.invariant.2, c.min.ensures) in
    let jobs : jobs_of v ≡ c.args.chief.jobs = ap (λ (m : _). m.jobs) c.chief.view_is in
    let told : told_of v ≡ c.args.chief.told = ap (λ (m : _). m.told) c.chief.view_is in
    let limit : c.self.inside.limit ≡ c.args.self.limit = ap (λ (m : _). m.limit) c.self.view_is in (
      subst (λ (l : List ℕ). CountsBelow c.min.result (λ x. times x l)) jobs (subst (λ (k : ℕ). CountsBelow k (λ x. times x (jobs_of v))) count all.0),
      (λ h. omega (arith, count, limit, all.1 (omega (arith, told, h)), c.self.invariant.2)),
    )

pub returns-clause-once : goal.returns-clause-once
returns-clause-once c = (shown c).0

pub returns-clause-all : goal.returns-clause-all
returns-clause-all c = (shown c).1
