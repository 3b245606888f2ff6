use Rattle.segment_writer.proofs.PieceSteps.{first_taken}
use Rattle.segment_writer.proofs.payloads.first_bytes.Goals as goal

pub returns : goal.returns
returns c = λ n within. first_taken c.args.own.now c.args.from c.part_at.result _ c.part_at.ensures c.requires.cursor n within
