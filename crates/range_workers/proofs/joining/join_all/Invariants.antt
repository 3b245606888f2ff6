use Rattle.std.proofs.Common.{◌≡◌, length}
use Rattle.std.specs.Vec.Iter.{into_iter_items, into_iter_len}
use Rattle.range_workers.specs.Ranges.{AreAdjacentFrom, joined_to, joined_all}
use Rattle.range_workers.proofs.joining.join_all.Given as goal

abbrev pub invariant-loop-partial : goal.invariant-loop-partial
invariant-loop-partial l =
    (goal.iterator-loop-partial).can_next l.partial-iterator ×
    (goal.iterator-loop-partial).is_finite l.partial-iterator ×
    (into_iter_len l.partial-iterator ≡ length (into_iter_items l.partial-iterator)) ×
    AreAdjacentFrom l.whole.to (into_iter_items l.partial-iterator) ×
    (joined_to l.whole (into_iter_items l.partial-iterator) ≡ joined_all l.fn.partials.items)
