use Rattle.std.proofs.Common.{◌≡◌, ◌∙◌, ◌<◌, sym, ap, Option, option_map, arith}
use Rattle.closed_loop.specs.declared.arrivals.Arrival.{Arrival}
use Rattle.closed_loop.proofs.Runs.{found}
use Rattle.closed_loop.proofs.arrivals.arrival_in.Goals as goal

pub returns-in-Some : goal.returns-in-Some
returns-in-Some c =
    let some : 0 < c.args.count = omega arith in
    let at = found c.args.list.now c.args.count c.place_of-place.result c.requires some c.place_of-place.ensures.within c.place_of-place.ensures.below c.place_of-place.ensures.above in
    sym (at ∙ ap (λ (o : Option Arrival). option_map (λ (a : Arrival). a.at) o) (sym c.run_at.ensures ∙ c.in-Some.is))

pub returns-in-None : goal.returns-in-None
returns-in-None c =
    let some : 0 < c.args.count = omega arith in
    let at = found c.args.list.now c.args.count c.place_of-place.result c.requires some c.place_of-place.ensures.within c.place_of-place.ensures.below c.place_of-place.ensures.above in
    sym (at ∙ ap (λ (o : Option Arrival). option_map (λ (a : Arrival). a.at) o) (sym c.run_at.ensures ∙ c.in-None.is))
