use Rattle.std.proofs.Common.{ℕ, List}
use Rattle.segment_writer.specs.declared.open_rows.OpenRow.{OpenRow}
use Rattle.segment_writer.proofs.RowSteps.{segment_put}
use Rattle.segment_writer.proofs.open_rows.put_segment.Goals as goal

pub returns : goal.returns
returns c =
    let row : OpenRow = c.args.row.now in
    let now : OpenRow = record { gathered = c.payload_of.new.gathered; segments = c.extend_from_slice.new.self } in
    let gathered : List ℕ = c.payload_of.new.gathered.items in
    let payload = c.in_ok-payload.ensures.payload in
    segment_put row now _ c.segment_in_row-segment.result _ c.in_ok-payload.ensures.gathered c.in_ok-extend_from_slice.ensures.items
    (c.segment_in_row-segment.ensures.framed c.args.own.now gathered c.requires.outline payload)
    (c.segment_in_row-segment.ensures.row c.args.own.now gathered c.requires.outline payload c.in_ok-payload.ensures.held)
    c.requires.row
