use Rattle.std.proofs.Common.{map, length, subst}
use Rattle.std.specs.List.Sorted.{IsNonDecreasing}
use Rattle.std.specs.Option.{IfSome}
use Rattle.std.proofs.lemmas.List.Sorted.{IsNonDecreasingBy-from_sort}
use Rattle.segment_writer.specs.SegmentRows.{segment_key}
use Rattle.segment_writer.specs.ShortKeys.{HaveShortKeys}
use Rattle.segment_writer.proofs.ShortKeySteps.{short_keys_sorted}
use Rattle.segment_writer.proofs.short_keys.short_order.Goals as goal

pub returns : goal.returns
returns c =
    let have = subst (λ r. IfSome r (λ short. HaveShortKeys (map segment_key c.deref.result.now) (length c.deref.result.now) short.items)) c.in-Some.is c.in_ok-short.ensures in
    let sorted = c.sort_unstable.new.self in
    let rises : IsNonDecreasing sorted.items = IsNonDecreasingBy-from_sort (λ n. n) sorted.items c.sort_unstable.ensures.sorted in
    short_keys_sorted c.args.row.now c.deref.result.now c.in-Some.short.items sorted.items c.deref.ensures.value have c.sort_unstable.ensures.permutation rises
