use Rattle.std.proofs.Common.{length, sym, ap, ◌∙◌, subst, arith}
use Rattle.std.proofs.lemmas.Result.{IfOk-weaker}
use Rattle.conn_table.specs.Tables.{finished}
use Rattle.range_workers.specs.Ranges.{AreWithin, AreAdjacent, partials_of, joined_all}
use Rattle.range_workers.proofs.Chains.{are_within, are_adjacent, whole_joined}
use Rattle.range_workers.proofs.capture_table.table.Goals as goal

pub invariant_of-jobs : goal.invariant_of-jobs
invariant_of-jobs g c =
    let capture = c.args.capture.now in
    record { within = subst (AreWithin capture) (sym c.deref.ensures.value) (are_within capture c.cut.result 0 c.in_ok-ranges.ranges.items c.in_ok-ranges.ensures) }

pub join_all-requires : goal.join_all-requires
join_all-requires g c =
    let capture = c.args.capture.now in
    let all = c.into_vec.ensures ∙ c.in_ok-partials.ensures ∙ ap (partials_of capture) c.deref.ensures.value in
    subst AreAdjacent (sym all) (are_adjacent capture c.cut.result 0 c.in_ok-ranges.ranges.items c.in_ok-ranges.ensures)

pub returns : goal.returns
returns g c =
    let capture = c.args.capture.now in
    let ranges = c.in_ok-ranges.ranges.items in
    let all = c.into_vec.ensures ∙ c.in_ok-partials.ensures ∙ ap (partials_of capture) c.deref.ensures.value in
    let whole = c.in_ok-join_all.ensures ∙ ap joined_all all ∙ whole_joined c.joins_agree.ensures capture c.cut.result ranges c.in_ok-ranges.ensures in
    IfOk-weaker c.finish.result _ _
    (λ t is. is ∙ ap finished whole ∙ c.tables_agree.ensures capture 0 (length capture.records) 0 (omega arith) (omega arith))
    c.finish.ensures
