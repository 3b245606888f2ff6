use Rattle.std.proofs.Common.{[], sym, ap, ◌∙◌}
use Rattle.pcap_records.specs.Instants.{horizon, millisecond, ticks_of}
use Rattle.reassembly.specs.LineView.{bytes_of_parts}
use Rattle.toxic_defs.specs.Bandwidth.{bandwidth_leaves, settled_parts}
use Rattle.toxic_defs.proofs.ChargedParts.{settles}
use Rattle.toxic_defs.proofs.bandwidth.pass_chunks.Goals as goal

pub returns : goal.returns
returns c =
    ap bytes_of_parts (c.settle_chunks.ensures ∙ ap settled_parts c.charge_parts.ensures)
    ∙ sym (settles (bandwidth_leaves (horizon (ticks_of c.args.unit)) (millisecond (ticks_of c.args.unit)) c.args.rate) [] c.args.parts.now c.requires.filled)
