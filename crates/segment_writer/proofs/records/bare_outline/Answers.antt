use Rattle.std.proofs.Common.{refl, ap, arith}
use Rattle.segment_writer.specs.declared.framed.SegKey.{SegKey}
use Rattle.segment_writer.specs.SegmentOutlines.{framed_of}
use Rattle.segment_writer.proofs.records.bare_outline.Goals as goal

pub returns-clause-framed : goal.returns-clause-framed
returns-clause-framed c =
    let sender = c.args.sender.now in
    λ own i. framed_of sender own (record { key = c.key_at.ensures i; is_server = sender.is_server; flags = c.args.flags; seq = c.args.numbers.seq; ack = c.args.numbers.ack; from = record { part = 0; offset = 0 }; len = 0 })

pub returns-clause-outline : goal.returns-clause-outline
returns-clause-outline c = λ own. record {
  side = refl;
  conn = ap (λ (k : SegKey). k.conn) c.key_at.ensures;
  early = omega (arith, c.requires, ap (λ (k : SegKey). k.moment) c.key_at.ensures);
  small = omega arith;
  within = omega arith;
  cursor = λ some. absurd (omega arith);
}
