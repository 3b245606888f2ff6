use Rattle.std.proofs.Common.{rules, ℕ, ap, subst, sym}
use Rattle.atomic_table.specs.Table.{Joins}
use Rattle.job_matrix.specs.declared.rules.SeatView.{SeatView}
use Rattle.job_matrix.specs.declared.rules.SeatView.TheVariants.{Leads, Claims, Spent}
use Rattle.job_matrix.specs.Boards.{worth, limit_of, jobs_of, back_of, told_of, after_join, Fair}
use Rattle.job_matrix.proofs.RuleKept.{joins}
use Rattle.job_matrix.proofs.boards.Chief.take_back.Goals as goal

pub join_seat-requires : goal.join_seat-requires
join_seat-requires c =
    let s = c.self.inside in
    let p = c.pass.inside in
    let v = s.seat.me.0 in
    let w = p.seat.me.0 in
    let key = c.board.inside.table.shared.key in
    let lead = Leads (limit_of v) s.made (back_of v) (told_of v) (jobs_of v) in
    let pass = Claims (limit_of w) (worth p.told) (jobs_of w) in
    let P : SeatView → Type 0 = λ u. Joins {S = ℕ} (Fair key) s.seat.id u p.seat.id pass (after_join u pass) Spent in
    let Q : SeatView → Type 0 = λ u. Joins {S = ℕ} (Fair key) s.seat.id v p.seat.id u (after_join v u) Spent in
    let kept = joins key s.seat.id p.seat.id (limit_of v) s.made (back_of v) (told_of v) (limit_of w) (worth p.told) (jobs_of v) (jobs_of w) in
    (search rules, search rules, ap (λ (m : _). m.1) c.pass.invariant, search rules, subst Q (sym (ap (λ (m : _). m.0) c.pass.invariant)) (subst P (sym (ap (λ (m : _). m.0) c.self.invariant.0)) kept))
