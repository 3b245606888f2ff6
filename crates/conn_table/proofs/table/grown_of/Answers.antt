use Rattle.std.proofs.Common.{◌∷◌, [], ◌++◌, length, append_assoc, ap, sym, ◌∙◌, subst, arith}
use Rattle.conn_table.specs.Entries.{all_of}
use Rattle.conn_table.specs.Growing.{HasGrown}
use Rattle.conn_table.proofs.Growths.{all_of-longer, all_of-push}
use Rattle.conn_table.proofs.table.grown_of.Goals as goal

pub take_all-requires : goal.take_all-requires
take_all-requires c =
    let rest = c.next.new.self.rest.items in
    let range = c.in-Some.range in
    let longer = all_of-longer c.loop-range.yielded rest range in
    let whole = ap (λ rs. length (all_of rs)) (ap (λ rs. c.loop-range.yielded ++ rs) (sym c.in-Some.ensures.steps.0) ∙ c.loop-range.invariant.whole) in
    (all_of c.loop-range.yielded, c.loop-range.invariant.grown, omega (arith, longer, whole, c.requires, ap length c.deref-in-loop-range.ensures.value))

pub loop-range-preserved : goal.loop-range-preserved
loop-range-preserved c =
    let rest = c.next.new.self.rest.items in
    let range = c.in-Some.range in
    let done = all_of c.loop-range.yielded in
    record {
      grown =
          subst (λ es. HasGrown es c.take_all.new.self)
          (ap (λ es. done ++ es) c.deref-in-loop-range.ensures.value ∙ sym (all_of-push c.loop-range.yielded range))
          (c.in_ok-take_all.ensures done c.loop-range.invariant.grown);
      whole = append_assoc c.loop-range.yielded (range ∷ []) rest ∙ ap (λ rs. c.loop-range.yielded ++ rs) (sym c.in-Some.ensures.steps.0) ∙ c.loop-range.invariant.whole;
    }
