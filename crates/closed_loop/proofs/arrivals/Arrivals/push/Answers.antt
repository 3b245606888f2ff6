use Rattle.std.proofs.Common.{◌≡◌, ◌∙◌, ◌+◌, ◌-◌, ◌<◌, ◌++◌, List, [], ◌∷◌, ℕ, replicate, sym, ap, subst, Some, arith}
use Rattle.closed_loop.specs.declared.arrivals.Arrival.{Arrival}
use Rattle.closed_loop.specs.Times.{IsCountedFrom, count_from, spread}
use Rattle.closed_loop.proofs.Runs.{spread_pushed, counted_pushed}
use Rattle.closed_loop.proofs.arrivals.Arrivals.push.Goals as goal

pub invariant_of-self-2 : goal.invariant_of-self-2
invariant_of-self-2 c =
    let b : Arrival = record { upto = c.in-Some.upto; at = c.args.at } in
    let more : count_from 0 c.self.inside.list.items < b.upto = grind (arith, c.in-Some.ensures, c.in-Some.is, c.count.ensures, c.if-count-eq0.false) in
    subst (λ (rs : List Arrival). IsCountedFrom 0 rs) (sym c.in_ok-push.ensures.items) (counted_pushed 0 c.self.inside.list.items b c.self.invariant more)

pub returns : goal.returns
returns c =
    let b : Arrival = record { upto = c.in-Some.upto; at = c.args.at } in
    let count : c.in-Some.upto - count_from 0 c.self.inside.list.items ≡ c.args.count = grind (arith, c.in-Some.ensures, c.in-Some.is, c.count.ensures) in
    ap spread c.in_ok-push.ensures.items ∙ spread_pushed 0 c.self.inside.list.items b
    ∙ ap (λ (n : ℕ). spread c.self.inside.list.items ++ replicate n c.args.at) count
    ∙ ap (λ (rs : List Arrival). spread rs ++ replicate c.args.count c.args.at) c.self.view_is
