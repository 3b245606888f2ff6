use Rattle.segment_writer.proofs.PieceSteps.{passed_within, passed_over}
use Rattle.segment_writer.proofs.pieces.next_bytes.Goals as goal

pub returns-then-most-bytes-clause-passed : goal.returns-then-most-bytes-clause-passed
returns-then-most-bytes-clause-passed c = passed_within c.args.parts.now c.args.from c.part_at.result _ c.part_at.ensures c.requires.cursor c.args.most c.if-most-bytes.true

pub returns-clause-passed : goal.returns-clause-passed
returns-clause-passed c = passed_over c.args.parts.now c.args.from c.part_at.result _ c.part_at.ensures c.requires.cursor _ c.next_filled-part.ensures.cursor c.next_filled-part.ensures.left
