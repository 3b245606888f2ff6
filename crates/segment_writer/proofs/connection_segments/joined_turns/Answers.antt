use Rattle.std.proofs.Common.{◌≡◌, ◌++◌, List, ap, ap₂, ◌∙◌, subst, sym}
use Rattle.std.proofs.lemmas.Result.{IfOk-weaker}
use Rattle.reassembly.specs.RecordedLines.{Line}
use Rattle.segment_writer.specs.Senders.{in_turn, line_written, opening_written, peer_in}
use Rattle.segment_writer.specs.WrittenSegments.{sorted_by_key}
use Rattle.segment_writer.specs.declared.framed.Framed.{Framed}
use Rattle.segment_writer.specs.declared.senders.Sender.{Sender}
use Rattle.segment_writer.specs.declared.senders.Turn.TheVariants.{Opening, ClientLine, ServerLine}
use Rattle.segment_writer.proofs.InOrder.{sorted_append, sorted_twice}
use Rattle.segment_writer.proofs.TurnOrder.{line_in_order, opening_in_order}
use Rattle.segment_writer.proofs.connection_segments.joined_turns.Goals as goal

in_order : (xs ys : List Framed) → ys ≡ xs → sorted_by_key xs ≡ xs → sorted_by_key ys ≡ ys
in_order xs ys is sorted = subst (λ (zs : List Framed). sorted_by_key zs ≡ zs) (sym is) sorted

pub join-requires-clause-left : goal.join-requires-clause-left
join-requires-clause-left c =
    in_order (opening_written c.args.delivered.now.refused c.args.client.now (peer_in c.args.client.now Opening) c.args.at) _
    (c.in_ok-written.ensures ∙ c.in_ok-put_opening.ensures.written ∙ ap (λ xs. xs ++ opening_written c.args.delivered.now.refused c.args.client.now (peer_in c.args.client.now Opening) c.args.at) c.in_ok-opening.ensures.0)
    (opening_in_order c.args.delivered.now.refused c.args.client.now c.args.at c.requires.client.turn)

pub join-requires-clause-right : goal.join-requires-clause-right
join-requires-clause-right c = in_order _ _ c.in_ok-up.ensures (line_in_order c.in_turn-upward.result c.args.delivered.now.up.line c.args.delivered.now.down.line c.requires.up)

pub join-requires-2-clause-left : goal.join-requires-2-clause-left
join-requires-2-clause-left c = in_order _ _ c.in_ok-joined.ensures (sorted_twice _)

pub join-requires-2-clause-right : goal.join-requires-2-clause-right
join-requires-2-clause-right c = in_order _ _ c.in_ok-down.ensures (line_in_order c.peer_in-downward.result c.args.delivered.now.down.line c.args.delivered.now.up.line c.requires.down)

pub returns : goal.returns
returns c =
    let client : Sender = c.args.client.now in
    let up : Line = c.args.delivered.now.up.line in
    let down : Line = c.args.delivered.now.down.line in
    let opening : List Framed = opening_written c.args.delivered.now.refused client (peer_in client Opening) c.args.at in
    let ups : List Framed = line_written (in_turn client ClientLine) up down in
    let downs : List Framed = line_written (peer_in client ServerLine) down up in
    let opening_is = c.in_ok-written.ensures ∙ c.in_ok-put_opening.ensures.written ∙ ap (λ xs. xs ++ opening) c.in_ok-opening.ensures.0 in
    let ups_are = c.in_ok-up.ensures ∙ ap (λ s. line_written s up down) c.in_turn-upward.ensures in
    let downs_are = c.in_ok-down.ensures ∙ ap (λ s. line_written s down up) c.peer_in-downward.ensures in
    let joined_is = c.in_ok-joined.ensures ∙ ap₂ (λ (xs ys : List Framed). sorted_by_key (xs ++ ys)) opening_is ups_are in
    IfOk-weaker c.join-2.result _ _
    (λ list is. is ∙ sorted_append c.in_ok-joined.joined c.in_ok-down.down (opening ++ ups) downs (ap sorted_by_key joined_is ∙ sorted_twice (opening ++ ups)) (ap sorted_by_key downs_are)) c.join-2.ensures
