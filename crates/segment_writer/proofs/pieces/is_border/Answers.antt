use Rattle.std.proofs.Common.{◌≢◌, ◌∙◌, sym, arith}
use Rattle.std.proofs.lemmas.Bool.{ne_eqb}
use Rattle.segment_writer.proofs.PieceSteps.{not_border}
use Rattle.segment_writer.proofs.pieces.is_border.Goals as goal

pub returns-else-from-eq0 : goal.returns-else-from-eq0
returns-else-from-eq0 c =
    let some : c.args.from.offset ≢ 0 = omega arith in
    ne_eqb c.args.from.offset 0 some ∙ sym (not_border c.args.parts.now c.args.from c.requires (omega arith))
