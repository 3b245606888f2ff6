use Rattle.std.proofs.Common.{◌≡◌, ◌≤◌, ◌<◌, ℕ, ◌+◌, ◌==◌, ◌||◌, ◌++◌, Bool, true, false, length, arith, rules, sym, ap, ◌∙◌, subst}
use Rattle.std.proofs.lemmas.Bool.Decides.{nat_tests}
use Rattle.reassembly.specs.LineView.{bytes_of_part, bytes_of_parts, bytes_with_mark}
use Rattle.toxic_defs.specs.Slices.{AreSized, GivesSizes}
use Rattle.toxic_defs.specs.declared.slices.Sizes.{Sizes}
use Rattle.toxic_defs.proofs.SlicedParts.{Split, cut_all, cut_begun, cut_gone_on}
use Rattle.toxic_defs.proofs.slices.slice_part.Goals.{then-starts, else-starts, then-begins, else-begins}
use Rattle.toxic_defs.proofs.slices.slice_part.Goals as goal

left_some : (starts : Bool) (left : ℕ) → (starts || left == 0) ≡ false → 0 < left
left_some true left h = absurd cc
left_some false left h = grind (arith, nat_tests)

pub slices-preserved : goal.slices-preserved
slices-preserved c =
    let inv = c.slices.invariant in
    let at : ℕ = c.args.part.now.at in
    let begins : Bool = c.if-starts.begins in
    let begins_is : begins ≡ (c.slices.starts || c.slices.left == 0) = elim c.if-starts.branch [
      | then-starts w ↦ rw w.if-starts.true (w.begins-is ∙ w.if-starts.true)
      | else-starts w ↦ rw w.if-starts.false w.begins-is
    ] in
    let some : 0 < length c.slices.rest.now = first_of (search rules, grind (arith, nat_tests)) in
    let sized : AreSized c.if-begins.sizes × (0 < c.if-begins.left) = elim c.if-begins.branch [
      | then-begins w ↦ (subst (λ (s : Sizes). AreSized s) (sym w.sizes-is) w.next-left.ensures.sized, rw w.left-is w.next-left.ensures.some)
      | else-begins w ↦
          let going : (c.slices.starts || c.slices.left == 0) ≡ false = sym begins_is ∙ w.if-begins.false in
          (subst (λ (s : Sizes). AreSized s) (sym w.sizes-is) inv.sized, rw w.left-is (left_some c.slices.starts c.slices.left going))
    ] in
    let some_left : 0 < c.if-begins.left = sized.1 in
    let n : ℕ = c.min.result in
    let split : Split c.slices.rest.now c.split_at.result.0.now c.split_at.result.1.now n = record {
      front_is = c.split_at.ensures.front;
      back_is = c.split_at.ensures.back;
      some = omega arith;
      within = omega arith;
    } in
    let le : n ≤ c.if-begins.left = omega arith in
    let len : length c.split_at.result.0.now ≡ n = c.split_at.ensures.front_len in
    record {
      sized = sized.0;
      filled = c.add_part.ensures.filled inv.filled (rw len split.some);
      cut = λ size k gives.
          let h = inv.cut size k gives in
          rw len (elim c.if-begins.branch [
            | then-begins w ↦
                let begun : (c.slices.starts || c.slices.left == 0) ≡ true = sym begins_is ∙ w.if-begins.true in
                cut_begun size k c.args.left (bytes_of_parts c.args.slices.now.items) (bytes_of_part c.args.part.now) c.slices.sizes c.if-begins.sizes c.slices.left c.if-begins.left n
                (bytes_of_parts c.slices.slices.items) (bytes_of_parts c.add_part.new.parts.items) at c.slices.starts c.slices.rest.now c.split_at.result.0.now c.split_at.result.1.now
                begun split le
                (λ number g. (w.left-is ∙ w.next-left.ensures.size size number g, subst (λ (s : Sizes). GivesSizes s size (number + 1)) (sym w.sizes-is) (w.next-left.ensures.next size number g)))
                (c.in_ok-add_part.ensures.added ∙ ap (λ s. bytes_of_parts c.slices.slices.items ++ bytes_with_mark at s c.split_at.result.0.now) w.if-begins.true) h
            | else-begins w ↦
                let going : (c.slices.starts || c.slices.left == 0) ≡ false = sym begins_is ∙ w.if-begins.false in
                let le' : n ≤ c.slices.left = subst (λ (m : ℕ). n ≤ m) w.left-is le in
                rw (w.sizes-is, w.left-is)
                (cut_gone_on size k c.args.left (bytes_of_parts c.args.slices.now.items) (bytes_of_part c.args.part.now) c.slices.sizes c.slices.left n
                (bytes_of_parts c.slices.slices.items) (bytes_of_parts c.add_part.new.parts.items) at c.slices.starts c.slices.rest.now c.split_at.result.0.now c.split_at.result.1.now
                going split le' (c.in_ok-add_part.ensures.added ∙ ap (λ s. bytes_of_parts c.slices.slices.items ++ bytes_with_mark at s c.split_at.result.0.now) w.if-begins.false) h)
          ]);
    }

pub returns-clause-bytes : goal.returns-clause-bytes
returns-clause-bytes c = λ size k gives.
    let none : length c.slices.rest.now ≡ 0 = first_of (search rules, grind (arith, nat_tests)) in
    cut_all size k c.args.left (bytes_of_parts c.args.slices.now.items) (bytes_of_part c.args.part.now) c.slices.sizes c.slices.left (bytes_of_parts c.slices.slices.items)
    c.args.part.now.at c.slices.starts c.slices.rest.now none (c.slices.invariant.cut size k gives)
