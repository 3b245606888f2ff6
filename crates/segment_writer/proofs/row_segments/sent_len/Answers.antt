use Rattle.std.proofs.Common.{arith}
use Rattle.segment_writer.proofs.RecordLengths.{length-sent}
use Rattle.segment_writer.proofs.row_segments.sent_len.Goals as goal

pub returns : goal.returns
returns c is_server ticks at seq ack flags =
    omega (arith, c.record_len.ensures, length-sent c.args.client.now is_server c.if-prove.false c.if-prove-2.false ticks at seq ack flags c.args.payload.now)
