use Rattle.std.proofs.Common.{refl}
use Rattle.std.proofs.lemmas.List.Sorted.{length_permutation}
use Rattle.reassembly.proofs.Reordered.{near_reordered, reordered_same}
use Rattle.reassembly.proofs.overlays.sorted_apart.Goals as goal

pub is_in_order-requires : goal.is_in_order-requires
is_in_order-requires c = rw c.deref.ensures.value (near_reordered _ _ c.in_ok-sorted.ensures c.requires)

pub returns-then-is_in_order-clause-same : goal.returns-then-is_in_order-clause-same
returns-then-is_in_order-clause-same c x = reordered_same _ _ c.in_ok-sorted.ensures (rw c.deref.ensures.value at c.if-is_in_order.ensures.ordered refl) x

pub returns-clause-several : goal.returns-clause-several
returns-clause-several c e =
    let few = c.if-is_in_order.ensures.several refl in
    rw (c.deref.ensures.value, length_permutation _ _ c.in_ok-sorted.ensures) at few
