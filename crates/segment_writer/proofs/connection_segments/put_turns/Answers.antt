use Rattle.std.proofs.Common.{◌++◌, List, subst}
use Rattle.std.proofs.lemmas.Result.{on_ok_weaker}
use Rattle.reassembly.specs.RecordedLines.{Line}
use Rattle.segment_writer.specs.OpenRows.{IsLonger}
use Rattle.segment_writer.specs.Senders.{in_turn, line_written, opening_written, peer_in}
use Rattle.segment_writer.specs.declared.framed.Framed.{Framed}
use Rattle.segment_writer.specs.declared.open_rows.OpenRow.{OpenRow}
use Rattle.segment_writer.specs.declared.senders.Sender.{Sender}
use Rattle.segment_writer.specs.declared.senders.Turn.TheVariants.{Opening, ClientLine, ServerLine}
use Rattle.segment_writer.proofs.RowSteps.{longer_on}
use Rattle.segment_writer.proofs.connection_segments.put_turns.Goals as goal

pub returns : goal.returns
returns c =
    let client : Sender = c.args.client.now in
    let up : Line = c.args.delivered.now.up.line in
    let down : Line = c.args.delivered.now.down.line in
    let before : OpenRow = c.args.row.now in
    let opened : OpenRow = c.put_opening.new.row in
    let gone_up : OpenRow = c.put_sent.new.row in
    let now : OpenRow = c.put_sent-2.new.row in
    let opening : List Framed = opening_written c.args.delivered.now.refused client (peer_in client Opening) c.args.at in
    let ups : List Framed = line_written (in_turn client ClientLine) up down in
    let downs : List Framed = line_written (peer_in client ServerLine) down up in
    let then_up : IsLonger opened ups gone_up = subst (λ s. IsLonger opened (line_written s up down) gone_up) c.in_turn-upward.ensures c.in_ok-put_sent.ensures in
    let both : IsLonger before (opening ++ ups) gone_up = longer_on before opened gone_up opening ups c.in_ok-put_opening.ensures then_up in
    on_ok_weaker c.put_sent-2.result
    (λ longer. longer_on before gone_up now (opening ++ ups) downs both (subst (λ s. IsLonger gone_up (line_written s down up) now) c.peer_in-downward.ensures longer))
    c.put_sent-2.ensures
