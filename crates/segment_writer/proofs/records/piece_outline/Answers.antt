use Rattle.std.proofs.Common.{◌+◌, Bool, refl, ap, ◌∙◌, arith, if◌then◌else◌}
use Rattle.frame_headers.specs.Flags.{psh_flag, ack_flag}
use Rattle.frame_headers.specs.Layout.{payload_limit}
use Rattle.segment_writer.specs.WrittenSegments.{is_chunk_border}
use Rattle.segment_writer.specs.LineCursors.{left_at}
use Rattle.segment_writer.specs.declared.framed.SegKey.{SegKey}
use Rattle.segment_writer.specs.declared.segment_outline.SegmentOutline.{SegmentOutline}
use Rattle.segment_writer.proofs.RecordSteps.{piece_is, piece_within, piece_limited, first_instant-cursor}
use Rattle.segment_writer.proofs.records.piece_outline.Goals as goal

pub skip_piece-after-requires-clause-within : goal.skip_piece-after-requires-clause-within
skip_piece-after-requires-clause-within c = omega (arith, c.requires.len, piece_within payload_limit (left_at c.args.own.now c.args.from))

pub returns-clause-framed : goal.returns-clause-framed
returns-clause-framed c =
    let at = first_instant-cursor c.args.own.now c.args.from c.part_at-at.result _ c.part_at-at.ensures c.requires.cursor in
    let outline : SegmentOutline = record { key = c.key_at.result; is_server = c.args.sender.now.is_server; flags = c.piece_flags.result; seq = c.args.numbers.seq; ack = c.args.numbers.ack; from = c.args.from; len = c.args.len } in
    let flags = c.piece_flags.ensures ∙ ap (λ (b : Bool). if b then psh_flag + ack_flag else ack_flag) (c.is_border.ensures ∙ ap is_chunk_border c.skip_piece-after.ensures.left) in
    piece_is c.args.sender.now c.args.own.now outline c.part_at-at.result.at c.args.numbers.place c.key_at.ensures at c.requires.len flags

pub returns-clause-outline : goal.returns-clause-outline
returns-clause-outline c =
    let at = first_instant-cursor c.args.own.now c.args.from c.part_at-at.result _ c.part_at-at.ensures c.requires.cursor in
    record {
      side = refl;
      conn = ap (λ (k : SegKey). k.conn) c.key_at.ensures;
      early = omega (arith, c.requires.early, ap (λ (k : SegKey). k.moment) c.key_at.ensures, at);
      small = omega (arith, c.requires.len, piece_limited payload_limit (left_at c.args.own.now c.args.from));
      within = omega (arith, c.requires.len, piece_within payload_limit (left_at c.args.own.now c.args.from));
      cursor = λ some. c.requires.cursor;
    }
