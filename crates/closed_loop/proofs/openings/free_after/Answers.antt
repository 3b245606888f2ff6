use Rattle.std.proofs.Common.{◌≡◌, ◌∙◌, ◌+◌, ◌-◌, ℕ, min, sym, ap, ap₂}
use Rattle.closed_loop.proofs.openings.free_after.Goals as goal

pub returns : goal.returns
returns c = λ times is.
    let pause = c.saturating_sub-pause.ensures ∙ ap (λ (n : ℕ). c.args.begin - n) c.recorded_last_at.ensures in
    c.sum_up_to.ensures ∙ ap₂ (λ (a b : ℕ). min c.args.o.now.limit (a + b)) (c.last_at.ensures times c.args.sessions.now is) pause
