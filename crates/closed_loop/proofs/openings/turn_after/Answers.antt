use Rattle.std.proofs.Common.{◌≡◌, ◌∙◌, ◌+◌, ◌-◌, ℕ, min, sym, ap, Option, Some, unwrap_or}
use Rattle.std.specs.List.{slice_get}
use Rattle.std.specs.Option.{option_and_then}
use Rattle.closed_loop.specs.Openings.{end_time}
use Rattle.closed_loop.specs.Times.{after}
use Rattle.closed_loop.proofs.openings.turn_after.Goals as goal

pub returns : goal.returns
returns c = λ times is.
    let ended : option_and_then (end_time times) (slice_get c.args.sessions.now c.args.number) ≡ Some c.in_ok-end.end
    = sym (c.end_at.ensures times c.args.sessions.now is) ∙ c.in_ok-end.was in
    let pause = c.saturating_sub-pause.ensures ∙ ap (λ (n : ℕ). c.args.begin - n) c.recorded_end_at.ensures in
    rw ended (c.sum_up_to.ensures ∙ ap (λ (n : ℕ). min c.args.o.now.limit (c.in_ok-end.end + n)) pause)
