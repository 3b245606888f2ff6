use Rattle.std.proofs.Common.{◌<◌, [], length, ◌∙◌, arith}
use Rattle.std.proofs.lemmas.List.{get_or_default}
use Rattle.toxicap.proofs.OutputSteps.{rows_sorted, rows_together}
use Rattle.toxicap.proofs.sources.Sources.drafted.Goals as goal

pub written_draft-requires-clause-sorted : goal.written_draft-requires-clause-sorted
written_draft-requires-clause-sorted g c = rows_sorted _ c.in_ok-row.row (c.deref.ensures.value ∙ c.in_ok-rows.ensures) c.in_ok-row.ensures.sorted

pub written_draft-requires-clause-once : goal.written_draft-requires-clause-once
written_draft-requires-clause-once g c =
    let same = rows_together _ c.in_ok-row.row (c.deref.ensures.value ∙ c.in_ok-rows.ensures) in
    rw same c.in_ok-row.ensures.once

pub returns-clause-drafts : goal.returns-clause-drafts
returns-clause-drafts g c =
    let same = rows_together _ c.in_ok-row.row (c.deref.ensures.value ∙ c.in_ok-rows.ensures) in
    let capture = rw (same, c.in_ok-row.ensures.capture) at c.in_ok-capture.ensures.holds in
    let own = c.args.self.now in
    let within : c.args.number < length own.heads.now = omega (arith, own.each, c.requires.within) in
    let head = get_or_default own.heads.now c.args.number c.index-self-number.result [] within in
    let report = rw (c.as_slice.ensures, head, c.in_ok-row.ensures.report) at c.reported_draft-report.ensures.holds in
    (capture, report)
