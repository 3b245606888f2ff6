use Rattle.std.proofs.Common.{[], ◌++◌, get_or, ap, ◌∙◌}
use Rattle.std.proofs.lemmas.Result.{IfOk-weaker}
use Rattle.toxicap.specs.{ticks_of}
use Rattle.toxicap.proofs.OutputSteps.{capture_moved, output_is}
use Rattle.toxicap.proofs.sources.Sources.row.Goals as goal

pub returns-clause-sorted : goal.returns-clause-sorted
returns-clause-sorted g c = IfOk-weaker c.deliver_row.result _ _ (λ row hold. hold.sorted) c.deliver_row.ensures

pub returns-clause-once : goal.returns-clause-once
returns-clause-once g c =
    IfOk-weaker c.deliver_row.result _ _ (λ row hold. c.once_in_any_order.ensures _ _ hold.segments (c.args.self.now.once _)) c.deliver_row.ensures

pub returns-clause-capture : goal.returns-clause-capture
returns-clause-capture g c =
    let own = c.args.self.now in
    IfOk-weaker c.deliver_row.result _ _
    (λ row hold. capture_moved c.one_order.ensures (ticks_of own.unit) _ _ (own.once _) hold.segments ∙ ap (λ o. o.capture) (output_is own c.args.number c.requires.within _))
    c.deliver_row.ensures

pub returns-clause-report : goal.returns-clause-report
returns-clause-report g c =
    let own = c.args.self.now in
    let number = c.args.number in
    IfOk-weaker c.deliver_row.result _ _
    (λ row hold. ap (λ lines. get_or own.heads.now number [] ++ lines) hold.lines ∙ ap (λ o. o.report) (output_is own number c.requires.within _))
    c.deliver_row.ensures
