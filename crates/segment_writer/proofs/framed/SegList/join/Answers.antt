use Rattle.std.proofs.Common.{rules, ◌++◌, ◌∙◌, List, ap, ap₂, subst}
use Rattle.std.specs.Vec.Iter.{into_iter_items}
use Rattle.itertools.specs.List.{merge_by}
use Rattle.segment_writer.specs.OrderedLists.{Ordered}
use Rattle.segment_writer.specs.WrittenSegments.{below}
use Rattle.segment_writer.specs.declared.framed.Framed.{Framed}
use Rattle.segment_writer.proofs.InOrder.{below_order, in_order_by_key, sorted_never_falls}
use Rattle.segment_writer.proofs.JoinSteps.{comes_first, merged_sorted}
use Rattle.segment_writer.proofs.framed.SegList.join.Goals as goal

pub returns : goal.returns
returns c =
    let left : List Framed = c.args.left in
    let right : List Framed = c.args.right in
    let left_ordered : Ordered below left = subst (λ (xs : List Framed). Ordered below xs) c.requires.left (sorted_never_falls left) in
    let right_ordered : Ordered below right = subst (λ (xs : List Framed). Ordered below xs) c.requires.right (sorted_never_falls right) in
    let run = c.in_ok-collect.ensures.runs tt in
    let first = c.merge_by-merged.ensures.runs run.0 run.0.seen run.1 in
    let second = first.2 in
    let whole = second.2.0 run.2 in
    let lefts = (c.into_iter.ensures.runs first.0 first.0.seen).4 whole.0 ∙ ap into_iter_items first.1 ∙ c.into_iter.ensures.rest ∙ c.into_vec-left.ensures in
    let from_right = c.merge_by-merged.ensures.second.0 in
    let rights = (from_right.3 second.0 second.0.seen).4 whole.1 ∙ ap into_iter_items second.1 ∙ from_right.0 ∙ c.into_vec-right.ensures in
    let gave = (second.2.1 (comes_first below below_order) (λ x y r q k. search rules)).1 run.2 in
    c.of.ensures ∙ run.3.0 ∙ gave ∙ ap₂ (merge_by (comes_first below below_order)) lefts rights ∙ merged_sorted below below_order left right left_ordered right_ordered
    ∙ (λ i. in_order_by_key i (left ++ right))
