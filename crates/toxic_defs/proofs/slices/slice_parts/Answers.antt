use Rattle.std.proofs.Common.{◌≡◌, ℕ, ◌+◌, List, ◌++◌, drop, arith, sym, ap, ◌∙◌}
use Rattle.std.proofs.lemmas.List.{drop_more, drop_all}
use Rattle.reassembly.specs.LineView.{bytes_of_part, bytes_of_parts}
use Rattle.reassembly.specs.declared.line_parts.LinePart.{LinePart}
use Rattle.toxic_defs.proofs.SlicedParts.{over_more, over_all}
use Rattle.toxic_defs.proofs.slices.slice_parts.Goals as goal

pub loop-part-preserved : goal.loop-part-preserved
loop-part-preserved c =
    let i : ℕ = c.loop-part.part-index in
    let ps : List LinePart = c.args.parts.now in
    let p : LinePart = c.part-item.result in
    let there : bytes_of_parts (drop i ps) ≡ bytes_of_part p ++ bytes_of_parts (drop (i + 1) ps) =
    ap bytes_of_parts (drop_more ps i p (omega arith)) ∙ ap (λ (q : LinePart). bytes_of_part q ++ bytes_of_parts (drop (i + 1) ps)) (sym c.part-item.is) in
    record {
      sized = c.slice_part.ensures.sized;
      filled = c.slice_part.ensures.filled;
      cut = λ size gives.
          over_more size (bytes_of_parts ps) (bytes_of_part p) c.loop-part.sizes c.slice_part.new.sizes c.loop-part.left c.in_ok-left.left
          (bytes_of_parts c.loop-part.slices.items) (bytes_of_parts c.slice_part.new.slices.items) (bytes_of_parts (drop i ps)) (bytes_of_parts (drop (i + 1) ps))
          there (λ k g. c.in_ok-left.ensures.bytes size k g) (c.loop-part.invariant.cut size gives);
    }

pub returns-clause-bytes : goal.returns-clause-bytes
returns-clause-bytes c = λ size gives.
    let i : ℕ = c.loop-part.part-index in
    let ps : List LinePart = c.args.parts.now in
    over_all size (bytes_of_parts ps) c.loop-part.sizes c.loop-part.left (bytes_of_parts c.loop-part.slices.items) (bytes_of_parts (drop i ps))
    (ap bytes_of_parts (drop_all i ps (omega arith))) (c.loop-part.invariant.cut size gives)
