-- A packet whose forerunners come as recorded is sent as recorded.
use Rattle.std.proofs.Common.{◌≡◌, ◌≤◌, ◌+◌, ◌-◌, ℕ, max, nat_lt, cond, Some, subst, arith}
use Rattle.closed_loop.specs.Times.{later, up_to}
use Rattle.closed_loop.specs.Settled.{next_time}
use Rattle.closed_loop.specs.Laws.{PacketsStay}

sum : (own ready at : ℕ) → own ≤ ready → ready ≤ at → max (ready + (at - ready)) (own + cond (nat_lt own at) 1 0) ≡ at
sum own ready at first in_time = grind arith

fits : (limit t at : ℕ) → t ≡ at → at ≤ limit → up_to limit (Some t) ≡ Some at
fits limit t at same within = grind (arith, same, within)

arrives : (own reset came said at limit : ℕ) → max (max own reset) came ≡ max (max own reset) said → max (max own reset) came ≤ at → at ≤ limit
    → up_to limit (later (Some (max (max own reset) came + (at - max (max own reset) said))) (Some (own + cond (nat_lt own at) 1 0))) ≡ Some at
arrives own reset came said at limit same in_time within =
    fits limit _ at (subst (λ (s : ℕ). max (max (max own reset) came + (at - s)) (own + cond (nat_lt own at) 1 0) ≡ at) same
    (sum own (max (max own reset) came) at (omega arith) in_time)) within

pub packets_stay : PacketsStay
unfolding next_time
packets_stay recorded times coming own reset heard source limit m is within =
    rw (is.own_sent, is.reset_sent, is.comes) (arrives own.at reset.at is.came _ m.at limit is.as_recorded is.in_time within)
