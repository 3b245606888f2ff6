use Rattle.std.proofs.Common.{[], option_map, ap, ◌∙◌}
use Rattle.pcap_records.specs.Instants.{horizon}
use Rattle.reassembly.specs.RecordedLines.{End}
use Rattle.reassembly.specs.LineView.{end_view, bytes_of_parts}
use Rattle.toxic_defs.specs.SessionCut.{line_up_to, closing_view}
use Rattle.toxic_defs.proofs.CutLines.{cut_made}
use Rattle.toxic_defs.proofs.session_cut.cut_at.Goals as goal

pub returns-clause-line : goal.returns-clause-line
returns-clause-line c =
    cut_made (horizon c.args.line.ticks) (option_map closing_view c.args.closing.now) c.args.line.line c.of_parts.result.line (end_view c.end_up_to.result)
    (ap (λ l. l.line.bytes) c.of_parts.ensures ∙ ap bytes_of_parts c.truncate.ensures.items ∙ (rw (c.deref.ensures.value, c.cut_instant.ensures, c.unit-unit.ensures, c.into_parts-parts.ensures) at c.kept_parts-kept.ensures))
    (c.end_up_to.ensures ∙ ap (λ (e : End). (line_up_to (option_map closing_view c.args.closing.now) (record { bytes = []; end = e })).end) c.end-end.ensures)
    (ap (λ l. l.line.end) c.of_parts.ensures ∙ (rw c.unit-unit.ensures at c.end_before_horizon.ensures))
