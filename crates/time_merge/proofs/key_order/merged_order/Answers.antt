use Rattle.std.proofs.Common.{List, map, sym, ap, ◌∙◌, subst, arith}
use Rattle.std.specs.List.{All}
use Rattle.std.proofs.lemmas.Simd.{map-map}
use Rattle.time_merge.specs.declared.orders.Place.{Place}
use Rattle.time_merge.specs.KeyedSegments.{all_keyed_segments, segment_at, place_of, IsPlace}
use Rattle.time_merge.proofs.KeyedOrder.{merged_keyed, merged_sorted, places_stand}
use Rattle.time_merge.proofs.PlaceOrders.{one_in_order}
use Rattle.time_merge.proofs.WalkedLists.{all_keyed, all_shown}
use Rattle.time_merge.proofs.key_order.merged_order.Goals as goal

pub returns-in-len1 : goal.returns-in-len1
returns-in-len1 g c =
    let segments = g.L.Keys.segments in
    let lists = c.args.lists.now in
    let keys = all_keyed_segments segments lists in
    let one = one_in_order segments lists c.only-item.result c.count.result (omega (arith, c.in-len1.len_at_least, c.in-len1.len_below)) c.only-item.is c.count.ensures c.requires.sorted in
    record {
      stand = subst (λ (ps : List Place). All (IsPlace segments lists) ps) (sym one.places) (places_stand segments lists keys (all_keyed segments lists));
      order = ap (map (segment_at segments lists)) one.places ∙ map-map (segment_at segments lists) place_of keys ∙ all_shown segments lists ∙ one.sorted;
    }

pub returns : goal.returns
returns g c =
    let segments = g.L.Keys.segments in
    let lists = c.args.lists.now in
    let of = c.in_ok-merged_places.ensures in
    record {
      stand = subst (λ (ps : List Place). All (IsPlace segments lists) ps) (sym of.3) (places_stand segments lists of.0 (merged_keyed segments lists of.0 of.1));
      order =
          ap (λ (ps : List Place). map (segment_at segments lists) ps) of.3 ∙ map-map (segment_at segments lists) place_of of.0
          ∙ merged_sorted segments lists c.requires.once of.0 of.1 of.2;
    }
