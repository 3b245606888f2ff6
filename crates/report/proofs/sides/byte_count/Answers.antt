use Rattle.std.proofs.Common.{length, sym, ap, ◌∙◌, arith}
use Rattle.std.proofs.lemmas.List.Folds.{length-flat_map-take}
use Rattle.reassembly.specs.LineView.{bytes_of_part}
use Rattle.reassembly.specs.declared.line_parts.LinePart.{LinePart}
use Rattle.reassembly.proofs.LineBytes.{length-marked}
use Rattle.report.proofs.sides.byte_count.Goals as goal

pub overflow_add-count : goal.overflow_add-count
overflow_add-count c =
    let p = c.part-item.result in
    let within = length-flat_map-take bytes_of_part c.args.parts.now c.loop-part.part-index p c.loop-part-test.true in
    let len = ap (λ (q : LinePart). length (bytes_of_part q)) (sym c.part-item.is) ∙ length-marked p.at p.starts p.bytes.now in
    omega (arith, within, len, c.loop-part.invariant, c.requires)
