use Rattle.std.proofs.Common.{◌∙◌, sym, refl, arith}
use Rattle.frame_headers.specs.Layout.{payload_limit}
use Rattle.segment_writer.proofs.PieceSteps.{size_begins, size_goes_on}
use Rattle.segment_writer.proofs.pieces.piece_len.Goals as goal

pub loop-len-init : goal.loop-len-init
loop-len-init c = record {
  within = omega arith;
  size = size_begins payload_limit c.args.parts.now c.args.from c.part_at.result _ _ c.part_at.ensures c.requires.cursor refl;
}

pub loop-len-preserved : goal.loop-len-preserved
loop-len-preserved c = record {
  within = omega arith;
  size = size_goes_on payload_limit c.args.parts.now c.loop-len.next _ c.part_at-in-loop-len.result _ _ _ _ c.part_at-then-next-parts.ensures (sym c.goes_on.ensures ∙ c.if-goes_on.true) c.part_at-in-loop-len.ensures c.loop-len.invariant.size;
}
