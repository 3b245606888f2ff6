use Rattle.std.proofs.Common.{◌≡◌, List, map, subst, sym}
use Rattle.std.specs.List.{All}
use Rattle.segment_writer.specs.declared.framed.Framed.{Framed}
use Rattle.segment_writer.specs.KeyLaws.{HasNoKeyTwice}
use Rattle.segment_writer.specs.WrittenSegments.{sorted_by_key}
use Rattle.time_merge.specs.KeyedSegments.{places_in, segment_at, IsPlace}
use Rattle.time_merge.specs.MergedCapture.{all_segments}
use Rattle.time_merge.proofs.merging.merge.Goals as goal

pub merged_order-requires-clause-once : goal.merged_order-requires-clause-once
merged_order-requires-clause-once c =
    subst (λ (lists : List (List Framed)). HasNoKeyTwice (all_segments lists)) (sym c.deref.ensures.value) c.requires.once

pub invariant_of-result : goal.invariant_of-result
invariant_of-result c = subst (λ (lists : List (List Framed)). All (IsPlace (λ l. l) lists) (places_in c.in_ok-order.order)) c.deref.ensures.value c.in_ok-order.ensures.stand

pub returns : goal.returns
returns c =
    subst (λ (lists : List (List Framed)). map (segment_at (λ l. l) lists) (places_in c.in_ok-order.order) ≡ sorted_by_key (all_segments lists))
    c.deref.ensures.value c.in_ok-order.ensures.order
