use Rattle.std.proofs.Common.{◌∙◌, ◌++◌, [], ◌∷◌, refl, subst, arith}
use Rattle.std.proofs.lemmas.Result.{on_ok_weaker}
use Rattle.segment_writer.specs.declared.framed.Framed.{Framed}
use Rattle.segment_writer.specs.declared.open_rows.OpenRow.{OpenRow}
use Rattle.segment_writer.specs.declared.segment_outline.SegmentOutline.{SegmentOutline}
use Rattle.segment_writer.specs.declared.senders.Sender.{Sender}
use Rattle.segment_writer.specs.OpenRows.{IsLonger}
use Rattle.segment_writer.specs.Senders.{framed_by}
use Rattle.segment_writer.specs.WrittenSegments.{opening_segment}
use Rattle.segment_writer.specs.SegmentOutlines.{framed_of}
use Rattle.segment_writer.proofs.RowSteps.{longer_not, longer_on, sender_now, side_framed}
use Rattle.segment_writer.proofs.SentClimb.{climbs_live}
use Rattle.segment_writer.proofs.TurnSteps.{going_starts, step_acknowledges, step_early, going_late, step_fits, step_falls, going_on, going_ends, end_acknowledges, going_ends_late, going_ends_with}
use Rattle.segment_writer.proofs.turns.put_line.Goals as goal

pub pieces-init : goal.pieces-init
pieces-init c = record {
  list = [];
  longer = longer_not c.args.row.now c.requires.row;
  going = going_starts c.args.sender.now c.args.own.now c.args.own_end.now c.args.peer.now c.args.peer_end.now [] _ refl c.next_filled.ensures.cursor c.next_filled.ensures.left c.requires.own;
}

pub returns-then-is_late : goal.returns-then-is_late
returns-then-is_late c =
    subst (λ xs. IsLonger c.args.row.now xs c.pieces.row) (going_late _ _ _ _ _ _ _ _ _ _ c.pieces.invariant.going _ _ c.part_at.ensures (c.is_late.ensures.late c.if-is_late.true)) c.pieces.invariant.longer

pub acknowledge-acknowledged-requires-clause-climbs : goal.acknowledge-acknowledged-requires-clause-climbs
acknowledge-acknowledged-requires-clause-climbs c = climbs_live 0 _ _ c.requires.peer.climbs

pub acknowledge-acknowledged-requires-clause-acknowledged : goal.acknowledge-acknowledged-requires-clause-acknowledged
acknowledge-acknowledged-requires-clause-acknowledged c = step_acknowledges _ _ _ _ _ _ _ _ _ _ c.pieces.invariant.going _ _ c.part_at.ensures

pub piece_outline-requires-clause-early : goal.piece_outline-requires-clause-early
piece_outline-requires-clause-early c = step_early _ _ _ _ _ _ _ _ _ _ c.pieces.invariant.going _ _ c.part_at.ensures (c.is_late.ensures.early c.if-is_late.false)

pub overflow_add-sent : goal.overflow_add-sent
overflow_add-sent c =
    let fits = step_fits _ _ _ _ _ _ _ _ _ _ c.pieces.invariant.going _ _ c.part_at.ensures _ c.piece_len-len.ensures c.requires.own.short in
    omega (arith, fits)

pub pieces-smaller : goal.pieces-smaller
pieces-smaller c = step_falls _ _ _ _ _ _ _ _ _ _ c.pieces.invariant.going _ _ c.part_at.ensures _ c.piece_len-len.ensures c.piece_outline.result.1 c.piece_outline.ensures.left

pub pieces-preserved : goal.pieces-preserved
pieces-preserved c =
    let before : OpenRow = c.args.row.now in
    let now : OpenRow = c.pieces.row in
    let next : OpenRow = c.put_segment.new.row in
    let sender : Sender = c.args.sender.now in
    let outline : SegmentOutline = c.piece_outline.result.0 in
    let framed : Framed = framed_of (sender_now c.args.client.now sender c.args.own.now outline c.requires.side c.piece_outline.ensures.outline) c.args.own.now outline in
    let framed_is = side_framed c.args.client.now sender c.args.own.now outline c.requires.side c.piece_outline.ensures.outline ∙ c.piece_outline.ensures.framed in
    record {
      list = c.pieces.invariant.list ++ framed ∷ [];
      longer = longer_on before now next c.pieces.invariant.list (framed ∷ []) c.pieces.invariant.longer c.in_ok-put_segment.ensures;
      going = going_on _ _ _ _ _ _ _ _ _ _ c.pieces.invariant.going _ _ c.part_at.ensures _ c.piece_len-len.ensures c.piece_outline.result.1 c.acknowledge-acknowledged.result _ _ _ framed _ (c.is_late.ensures.early c.if-is_late.false) c.piece_outline.ensures.cursor c.piece_outline.ensures.left
          c.acknowledge-acknowledged.ensures.acknowledged c.acknowledge-acknowledged.ensures.all c.numbers_at-numbers.ensures.seq c.numbers_at-numbers.ensures.ack c.numbers_at-numbers.ensures.place framed_is refl;
    }

pub returns-in_default : goal.returns-in_default
returns-in_default c = subst (λ xs. IsLonger c.args.row.now xs c.pieces.row) (going_ends _ _ _ _ _ _ _ _ _ _ c.pieces.invariant.going c.pieces-test.false c.in_default.ensures) c.pieces.invariant.longer

pub acknowledge-all-requires-clause-climbs : goal.acknowledge-all-requires-clause-climbs
acknowledge-all-requires-clause-climbs c = climbs_live 0 _ _ c.requires.peer.climbs

pub acknowledge-all-requires-clause-acknowledged : goal.acknowledge-all-requires-clause-acknowledged
acknowledge-all-requires-clause-acknowledged c = end_acknowledges _ _ _ _ _ _ _ _ _ _ c.pieces.invariant.going c.pieces-test.false c.in-Some.ending c.in-Some.ensures

pub returns-then-is_late-2 : goal.returns-then-is_late-2
returns-then-is_late-2 c =
    subst (λ xs. IsLonger c.args.row.now xs c.pieces.row) (going_ends_late _ _ _ _ _ _ _ _ _ _ c.pieces.invariant.going c.pieces-test.false c.in-Some.ending c.in-Some.ensures (c.is_late-2.ensures.late c.if-is_late-2.true)) c.pieces.invariant.longer

pub returns : goal.returns
returns c =
    let before : OpenRow = c.args.row.now in
    let now : OpenRow = c.pieces.row in
    let next : OpenRow = c.put_bare.new.row in
    let last : Framed = framed_by c.args.sender.now (c.numbers_at-numbers-2.result.place, opening_segment c.in-Some.ending.at c.numbers_at-numbers-2.result.seq c.numbers_at-numbers-2.result.ack c.in-Some.ending.flags) in
    let all = going_ends_with _ _ _ _ _ _ _ _ _ _ c.pieces.invariant.going c.pieces-test.false c.in-Some.ending c.in-Some.ensures c.acknowledge-all.result _ _ _ last (c.pieces.invariant.list ++ last ∷ []) (c.is_late-2.ensures.early c.if-is_late-2.false) c.acknowledge-all.ensures.all
    c.numbers_at-numbers-2.ensures.seq c.numbers_at-numbers-2.ensures.ack c.numbers_at-numbers-2.ensures.place refl refl in
    on_ok_weaker c.put_bare.result
    (λ longer. subst (λ xs. IsLonger before xs next) all (longer_on before now next c.pieces.invariant.list (last ∷ []) c.pieces.invariant.longer longer))
    c.put_bare.ensures
