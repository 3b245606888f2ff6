use Rattle.std.proofs.Common.{◌∙◌, [], ◌∷◌, OnOk, subst}
use Rattle.segment_writer.specs.OpenRows.{IsLonger}
use Rattle.segment_writer.proofs.RowSteps.{side_framed, side_outline}
use Rattle.segment_writer.proofs.open_rows.put_bare.Goals as goal

pub put_segment-requires-clause-outline : goal.put_segment-requires-clause-outline
put_segment-requires-clause-outline c = side_outline c.args.client.now c.args.sender.now [] c.bare_outline-outline.result c.requires.side (c.bare_outline-outline.ensures.outline [])

pub returns : goal.returns
returns c =
    subst (λ x. OnOk c.put_segment.result (IsLonger c.args.row.now (x ∷ []) c.put_segment.new.row))
    (side_framed c.args.client.now c.args.sender.now [] c.bare_outline-outline.result c.requires.side (c.bare_outline-outline.ensures.outline []) ∙ c.bare_outline-outline.ensures.framed [])
    c.put_segment.ensures
