use Rattle.std.proofs.Common.{OnOk, subst, sym}
use Rattle.segment_writer.specs.OpenRows.{IsLonger}
use Rattle.segment_writer.specs.Senders.{line_written}
use Rattle.segment_writer.specs.TimelyLines.{IsTimely}
use Rattle.segment_writer.proofs.WholeSegments.{line_is}
use Rattle.segment_writer.proofs.connection_segments.put_sent.Goals as goal

pub put_line-requires-clause-own : goal.put_line-requires-clause-own
put_line-requires-clause-own c = subst IsTimely (sym (line_is c.parts.result.now c.end-own_end.result c.args.own.now.line c.parts.ensures c.end-own_end.ensures)) c.requires.own

pub put_line-requires-clause-peer : goal.put_line-requires-clause-peer
put_line-requires-clause-peer c = subst IsTimely (sym (line_is c.parts-2.result.now c.end-peer_end.result c.args.peer.now.line c.parts-2.ensures c.end-peer_end.ensures)) c.requires.peer

pub returns : goal.returns
returns c =
    let own = line_is c.parts.result.now c.end-own_end.result c.args.own.now.line c.parts.ensures c.end-own_end.ensures in
    let peer = line_is c.parts-2.result.now c.end-peer_end.result c.args.peer.now.line c.parts-2.ensures c.end-peer_end.ensures in
    subst (λ xs. OnOk c.put_line.result (IsLonger c.args.row.now xs c.put_line.new.row)) (λ i. line_written c.args.sender.now (own i) (peer i)) c.put_line.ensures
