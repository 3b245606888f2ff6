use Rattle.std.proofs.Common.{rules, ℕ, ap, subst, sym, arith}
use Rattle.atomic_table.specs.Table.{Splits}
use Rattle.job_matrix.specs.declared.rules.SeatView.{SeatView}
use Rattle.job_matrix.specs.Boards.{limit_of, jobs_of, back_of, told_of, after_split, new_pass, Fair}
use Rattle.job_matrix.proofs.RuleKept.{splits}
use Rattle.job_matrix.proofs.boards.Chief.split.Goals as goal

pub split_seat-seat-requires : goal.split_seat-seat-requires
split_seat-seat-requires c =
    let s = c.self.inside in
    let v = s.seat.me.0 in
    let key = c.board.inside.table.shared.key in
    let P : SeatView → Type 0 = λ u. Splits {S = ℕ} (Fair key) s.seat.id u (after_split u) (new_pass u) in
    (search rules, search rules, subst P (sym (ap (λ (m : _). m.0) c.self.invariant.0)) (splits key s.seat.id (limit_of v) s.made (back_of v) (told_of v) (jobs_of v) (omega (arith, c.if-self-ge-PASS_LIMIT.false))))
