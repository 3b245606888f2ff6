use Rattle.std.proofs.Common.{rules, ◌≡◌, ℕ, Bool, [], ap, subst, sym, ◌∙◌, ◌+◌, ◌%◌, ◌^◌}
use Rattle.atomic_table.specs.Table.{Me, Allows}
use Rattle.job_matrix.specs.declared.rules.SeatView.{SeatView}
use Rattle.job_matrix.specs.declared.rules.SeatView.TheVariants.{Claims}
use Rattle.job_matrix.specs.Boards.{worth, limit_of, jobs_of, Fair, Claimed}
use Rattle.job_matrix.proofs.RuleKept.{claims}
use Rattle.job_matrix.proofs.boards.Board.claim.Goals as goal

pub fetch_add-found-requires : goal.fetch_add-found-requires
fetch_add-found-requires c =
    let p = c.pass.inside in
    let t = c.self.inside.table.shared in
    let v = p.seat.me.0 in
    let is : p.seat.me ≡ (Claims (limit_of v) 0 (jobs_of v), []) = c.pass.invariant ∙ ap (λ (told : Bool). (Claims (limit_of v) (worth told) (jobs_of v), [])) c.if-pass.false in
    (search rules, search rules, subst (λ (me : Me ℕ SeatView). Allows (Fair t.key) t.table_id.slots p.seat.id me 0 (λ w. (w + 1) % 2 ^ 64) (Claimed me)) (sym is) (claims t.key t.table_id.slots p.seat.id (limit_of v) (jobs_of v) []))
