use Rattle.std.proofs.Common.{length, sym, ap, ◌∙◌}
use Rattle.std.proofs.lemmas.List.FromFn.{length-map-range_with_len}
use Rattle.time_merge.specs.KeyedSegments.{place_in_first, places_in}
use Rattle.time_merge.proofs.orders.Order.len.Goals as goal

pub returns-in-OfOneList : goal.returns-in-OfOneList
returns-in-OfOneList c = sym (ap (λ order. length (places_in order)) c.in-OfOneList.is ∙ length-map-range_with_len place_in_first 0 c.in-OfOneList.count)
