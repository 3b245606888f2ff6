use Rattle.std.proofs.Common.{◌≡◌, refl, ap, ◌∙◌, sym, arith}
use Rattle.std.proofs.lemmas.List.{map-append, length-append}
use Rattle.conn_table.specs.Partials.{joined_partial}
use Rattle.conn_table.specs.Entries.{all_of, kept_by}
use Rattle.conn_table.proofs.CountingSteps.{count_at-sum}
use Rattle.conn_table.proofs.Growths.{all_of-append}
use Rattle.conn_table.proofs.partial.Partial.join.Goals as goal

pub invariant_of-result : goal.invariant_of-result
invariant_of-result c =
    let left = c.left.invariant in
    let right = c.right.invariant in
    let told = c.in_ok-append.ensures in
    let meet : c.left.inside.to ≡ c.right.inside.from = ap (λ v. v.to) c.left.view_is ∙ (c.requires ∙ sym (ap (λ v. v.from) c.right.view_is)) in
    record {
      ordered = omega (arith, left.ordered, right.ordered, meet);
      few = right.few;
      segments = rw (told.items, all_of-append c.left.inside.ranges.items c.right.inside.ranges.items) (omega (arith, length-append (all_of c.left.inside.ranges.items) (all_of c.right.inside.ranges.items), left.segments, right.segments, left.ordered, right.ordered, meet));
      counted = λ k. rw c.plus.ensures (omega (arith, count_at-sum k c.left.inside.counts c.right.inside.counts, left.counted k, right.counted k, left.ordered, right.ordered, meet));
    }

pub returns-clause-exact : goal.returns-clause-exact
unfolding joined_partial
returns-clause-exact c =
    let xs = all_of c.left.inside.ranges.items in
    let ys = all_of c.right.inside.ranges.items in
    rw (
      ← c.left.view_is,
      ← c.right.view_is,
      c.plus.ensures,
      c.in_ok-append.ensures.items,
      all_of-append c.left.inside.ranges.items c.right.inside.ranges.items,
      map-append kept_by xs ys,
    ) refl
