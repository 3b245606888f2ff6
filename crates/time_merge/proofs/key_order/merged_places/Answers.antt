use Rattle.std.proofs.Common.{rules, true, refl, sym}
use Rattle.std.proofs.lemmas.Iterator.{YieldsList-from_slice, YieldsList-from_map_by}
use Rattle.std.proofs.lemmas.Iterator.Consumers.{YieldsList-from_enumerate, YieldsList-at}
use Rattle.time_merge.specs.KeyedSegments.{keyed_left}
use Rattle.time_merge.proofs.KeyedOrder.{merging_order}
use Rattle.time_merge.proofs.KeySources.{keys_of_list, keys_of_lists, runs_give, all_sorted, gave_all, gave_in_order}
use Rattle.time_merge.proofs.key_order.merged_places.Goals as goal

pub returns : goal.returns
returns g c =
    let segments = g.L.Keys.segments in
    let lists = c.args.lists.now in
    let keys = keys_of_lists segments lists in
    let start = sym c.into_iter-next-iterator.ensures.into_iter_gives in
    let items = rw start at c.in_ok-next-items.ensures.items in
    let orders = rw start at c.in_ok-next-items.ensures.in_order in
    let sources = runs_give (keyed_left segments) keys items orders
    (YieldsList-from_map_by _ (keyed_left segments) (keys_of_list segments)
    (YieldsList-at c.map-sources.ensures.source (YieldsList-from_enumerate (YieldsList-at c.enumerate.ensures.source (YieldsList-from_slice lists (cc))) c.enumerate.ensures.count))
    c.map-sources.ensures.closure (λ x r q k. search rules)) in
    let yielded = c.loop-next.yielded in
    let last = rw c.in-None.is at c.next.ensures.steps in
    let gave = items.3 keys sources.0 yielded true (c.loop-next.next-iterator, c.loop-next.yielded_by, λ _. (c.next.new.self, last)) in
    let in_order = orders.3 merging_order keys sources.1 (all_sorted segments lists c.requires) yielded true (c.loop-next.next-iterator, c.loop-next.yielded_by, λ _. (c.next.new.self, last)) in
    (yielded, gave_all segments lists yielded gave.0 yielded gave.1 (gave.2 refl) refl, gave_in_order yielded yielded in_order refl, c.loop-next.invariant)
