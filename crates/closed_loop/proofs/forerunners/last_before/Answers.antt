use Rattle.closed_loop.proofs.Marks.{none_found, last_found}
use Rattle.closed_loop.proofs.forerunners.last_before.Goals as goal

pub returns-in-Some : goal.returns-in-Some
returns-in-Some c = λ marks is.
    let range = c.range.ensures.in_range tt in
    last_found marks c.args.places.now c.args.key c.args.bound is _ _ _ (range.3 _ _ c.in-Some.ensures.steps) (range.4 _ _ c.in-Some.ensures.steps)

pub returns-in-None : goal.returns-in-None
returns-in-None c = λ marks is. none_found marks c.args.places.now c.args.key c.args.bound is ((c.range.ensures.in_range tt).5 c.in-None.ensures.steps.0)
