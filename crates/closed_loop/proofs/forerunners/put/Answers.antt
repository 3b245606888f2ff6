use Rattle.std.proofs.Common.{◌≡◌, sym, subst, ℕ, Some}
use Rattle.std.specs.BTreeMap.{Updates}
use Rattle.closed_loop.specs.Openings.{mark_cmp}
use Rattle.closed_loop.proofs.Marks.{none_more, one_more}
use Rattle.closed_loop.proofs.forerunners.put.Goals as goal

pub returns-in_ok-insert-in-Some : goal.returns-in_ok-insert-in-Some
returns-in_ok-insert-in-Some c = λ marks len is.
    one_more marks c.args.mark c.args.places.now is c.insert.new.self c.in-Some.mark c.in-Some.is
    (subst (λ (n : ℕ). Updates mark_cmp c.args.places.now c.insert.new.self c.in-Some.mark (Some n)) (sym len) c.in_ok-insert-in-Some.ensures.updates)

pub returns-in-None : goal.returns-in-None
returns-in-None c = λ marks len is. none_more marks c.args.mark c.args.places.now is c.in-None.is
