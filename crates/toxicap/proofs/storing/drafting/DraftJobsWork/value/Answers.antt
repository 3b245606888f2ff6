use Rattle.std.proofs.Common.{◌≤◌, ◌+◌, ◌<◌, ◌≡◌, ◌∙◌, ℕ, List, length, take, drop, get_or, sym, ap, arith}
use Rattle.toxicap.specs.{Output, no_output, outputs_of_sources, placed_output}
use Rattle.toxicap.proofs.OutputSteps.{as_many_outputs}
use Rattle.toxicap.proofs.StoringEnds.{at_place, length-some, one_of, one_placed, placed_below}
use Rattle.toxicap.proofs.storing.drafting.DraftJobsWork.value.Goals as goal

pub overflow_add-number : goal.overflow_add-number
overflow_add-number g c =
    let own = c.args.self.now in
    let all : List Output = outputs_of_sources own.sources.now in
    let within : own.first + own.count ≤ length all = omega (arith, own.within, as_many_outputs own.sources.now) in
    omega (arith, placed_below all own.first own.count within own.folder.now.path 0 c.args.job c.requires, own.within, own.sources.now.few)

pub drafted-requires-clause-within : goal.drafted-requires-clause-within
drafted-requires-clause-within g c =
    let own = c.args.self.now in
    let all : List Output = outputs_of_sources own.sources.now in
    let within : own.first + own.count ≤ length all = omega (arith, own.within, as_many_outputs own.sources.now) in
    omega (arith, placed_below all own.first own.count within own.folder.now.path 0 c.args.job c.requires, own.within)

pub drafted-requires-clause-place : goal.drafted-requires-clause-place
drafted-requires-clause-place g c =
    let own = c.args.self.now in
    let all : List Output = outputs_of_sources own.sources.now in
    let within : own.first + own.count ≤ length all = omega (arith, own.within, as_many_outputs own.sources.now) in
    omega (arith, placed_below all own.first own.count within own.folder.now.path 0 c.args.job c.requires, own.within, own.sources.now.few)

pub returns : goal.returns
returns g c = λ other.
    let own = c.args.self.now in
    let sources = own.sources.now in
    let folder : List ℕ = own.folder.now.path in
    let job : ℕ = c.args.job in
    let all : List Output = outputs_of_sources sources in
    let within : own.first + own.count ≤ length all = omega (arith, own.within, as_many_outputs sources) in
    let some : List Output = take own.count (drop own.first all) in
    let below = placed_below all own.first own.count within folder 0 job c.requires in
    let inside : job < length some = omega (arith, below, length-some all own.first own.count within) in
    let places = c.in_ok-drafted.ensures.places in
    let zero_on : 0 + job ≡ job = omega arith in
    at_place folder job (get_or all (own.first + job) no_output) _ _ places.0 places.1
    ∙ ap (placed_output folder job) (one_of all own.first own.count within job no_output below)
    ∙ ap (λ n. placed_output folder n (get_or some job no_output)) (sym zero_on)
    ∙ one_placed folder 0 some job other inside
