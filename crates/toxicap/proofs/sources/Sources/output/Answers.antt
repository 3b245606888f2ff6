use Rattle.std.proofs.Common.{◌≡◌, ◌<◌, [], get_or, length, ap, ◌∙◌, arith}
use Rattle.std.proofs.lemmas.List.{get_or_default}
use Rattle.toxicap.specs.{ticks_of, capture_of, Output, no_output, outputs_of_sources}
use Rattle.toxicap.proofs.OutputSteps.{rows_sorted, rows_together}
use Rattle.toxicap.proofs.sources.Sources.output.Goals as goal

pub merged_capture-requires-clause-sorted : goal.merged_capture-requires-clause-sorted
merged_capture-requires-clause-sorted g c = rows_sorted _ c.in_ok-row.row (c.deref.ensures.value ∙ c.in_ok-rows.ensures) c.in_ok-row.ensures.sorted

pub merged_capture-requires-clause-once : goal.merged_capture-requires-clause-once
merged_capture-requires-clause-once g c =
    let same = rows_together _ c.in_ok-row.row (c.deref.ensures.value ∙ c.in_ok-rows.ensures) in
    rw same c.in_ok-row.ensures.once

pub returns : goal.returns
returns g c =
    let own = c.args.self.now in
    let output : Output = get_or (outputs_of_sources own) c.args.number no_output in
    let same = rows_together _ c.in_ok-row.row (c.deref.ensures.value ∙ c.in_ok-rows.ensures) in
    let capture : c.of.result ≡ output.capture = c.of.ensures ∙ c.in_ok-bytes.ensures ∙ ap (capture_of (ticks_of own.unit)) same ∙ c.in_ok-row.ensures.capture in
    let within : c.args.number < length own.heads.now = omega (arith, own.each, c.requires.within) in
    let head = get_or_default own.heads.now c.args.number c.index-self-number.result [] within in
    let report : c.in_ok-report.report ≡ output.report = rw (c.as_slice.ensures, head, c.in_ok-row.ensures.report) at c.in_ok-report.ensures in
    λ i. record { capture = capture i; report = report i }
