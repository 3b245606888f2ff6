use Rattle.std.proofs.Common.{List, [], ◌∷◌, ◌++◌, sym, ap, ◌∙◌, arith}
use Rattle.toxicap.specs.{into_iter_items, Delivery}
use Rattle.toxicap.proofs.GatheredRows.{takes_one, mapped_push}
use Rattle.toxicap.proofs.rehearsal.take_row.Goals as goal

pub loop-taken-preserved : goal.loop-taken-preserved
loop-taken-preserved c =
    let items : List Delivery = into_iter_items c.args.deliveries.now in
    let taken = c.loop-taken.taken in
    let delivery = c.in-Some.delivery in
    let gave = c.in-Some.ensures.cases in
    let one = takes_one items taken delivery (into_iter_items c.next.new.self) (sym c.loop-taken.invariant.left ∙ gave.0) in
    record {
      segments = c.in_ok-push.ensures.items ∙ ap (λ xs. xs ++ delivery.segments ∷ []) c.loop-taken.invariant.segments ∙ mapped_push (λ (d : Delivery). d.segments) items taken delivery one.taken;
      lines = c.in_ok-push-2.ensures.items ∙ ap (λ xs. xs ++ delivery.line ∷ []) c.loop-taken.invariant.lines ∙ mapped_push (λ (d : Delivery). d.line) items taken delivery one.taken;
      left = one.rest;
      fewer = omega (arith, gave.1, c.loop-taken.invariant.fewer);
    }
