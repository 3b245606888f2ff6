use Rattle.std.proofs.Common.{◌≡◌, ◌∙◌, ◌<◌, ◌-◌, ℕ, suc, length, get_or, nat_lt, sym, ap, subst, take, List, Some, ◌≤◌, arith}
use Rattle.std.specs.List.{prefix_len, slice_get}
use Rattle.std.proofs.lemmas.Option.{slice_get-get_or}
use Rattle.closed_loop.specs.declared.arrivals.Arrival.{Arrival}
use Rattle.closed_loop.specs.Times.{spread, count_from, IsCountedFrom, IsPassed}
use Rattle.closed_loop.proofs.Runs.{passed, counted_take}
use Rattle.closed_loop.proofs.arrivals.Arrivals.count_to.Goals as goal

none : (z : Arrival) (rs : List Arrival) (k number : ℕ) → IsCountedFrom 0 rs → k ≡ 0 → IsPassed rs k number → ((d : Arrival) → k < length rs → number ≤ (get_or rs k d).at)
    → 0 ≡ prefix_len (λ by. nat_lt by number) (spread rs)
none z rs k number all zero_is is stops =
    let whole : prefix_len (λ by. nat_lt by number) (spread rs) ≡ count_from 0 (take k rs) = passed z rs k number all is (stops z) in
    let e : prefix_len (λ by. nat_lt by number) (spread rs) ≡ count_from 0 (take 0 rs) = rw zero_is at whole in
    sym e

some : (z : Arrival) (rs : List Arrival) (k number : ℕ) → IsCountedFrom 0 rs → 0 < k
    → IsPassed rs k number → ((d : Arrival) → k < length rs → number ≤ (get_or rs k d).at)
    → (get_or rs (k - 1) z).upto ≡ prefix_len (λ by. nat_lt by number) (spread rs)
some z rs k number all more is stops =
    let e : suc (k - 1) ≡ k = omega arith in
    let within : k - 1 < length rs = omega (arith, more, is.within) in
    let at : slice_get rs (k - 1) ≡ Some (get_or rs (k - 1) z) = slice_get-get_or rs (k - 1) z within in
    let taken : count_from 0 (take k rs) ≡ (get_or rs (k - 1) z).upto = rw e at (counted_take 0 rs (k - 1) (get_or rs (k - 1) z) at) in
    sym (passed z rs k number all is (stops z) ∙ taken)

pub returns-then-runs-eq0 : goal.returns-then-runs-eq0
returns-then-runs-eq0 c = λ number is stops.
    let z : Arrival = record { upto = 0; at = 0 } in
    let rs : List Arrival = c.args.self.now in
    let counted : IsCountedFrom 0 rs = subst (λ (l : List Arrival). IsCountedFrom 0 l) c.self.view_is c.self.invariant in
    none z rs c.args.runs number counted c.if-runs-eq0.true is stops

pub returns : goal.returns
returns c = λ number is stops.
    let z : Arrival = c.index-last.result.now in
    let rs : List Arrival = c.args.self.now in
    let counted : IsCountedFrom 0 rs = subst (λ (l : List Arrival). IsCountedFrom 0 l) c.self.view_is c.self.invariant in
    let more : 0 < c.args.runs = omega arith in
    let whole : (get_or rs (c.args.runs - 1) z).upto ≡ prefix_len (λ by. nat_lt by number) (spread rs) = some z rs c.args.runs number counted more is stops in
    ap (λ (a : Arrival). a.upto) (c.index-last.ensures ∙ ap (λ (l : List Arrival). get_or l (c.args.runs - 1) z) c.self.view_is) ∙ whole
