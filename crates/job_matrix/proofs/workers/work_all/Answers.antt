use Rattle.std.proofs.Common.{ℕ, List, sym, subst, ◌∙◌}
use Rattle.job_matrix.specs.Counting.{times, CountsBelow}
use Rattle.job_matrix.proofs.FilledTrays.{values_in_order}
use Rattle.job_matrix.proofs.workers.work_all.Goals as goal

pub put_in_order-requires : goal.put_in_order-requires
put_in_order-requires g c =
    let done = rw c.in_ok-done.was at c.spread-chief.ensures.done in
    subst (λ (js : List ℕ). CountsBelow c.in-Ok.count (λ x. times x js)) (sym done.0.0) c.in-Ok.ensures.once

pub returns : goal.returns
returns g c =
    let done = rw c.in_ok-done.was at c.spread-chief.ensures.done in
    let jobs = c.spread-chief.result.0.jobs in
    let once = subst (λ (js : List ℕ). CountsBelow c.in-Ok.count (λ x. times x js)) (sym done.0.0) c.in-Ok.ensures.once in
    let all = c.in-Ok.ensures.all done.1 ∙ c.in_ok-board.ensures.limit ∙ c.requires.jobs in
    values_in_order (g.W.Work.values c.args.work.now) c.in-Ok.count jobs c.in_ok-done.field-0.items c.put_in_order.result all once done.0 c.put_in_order.ensures
