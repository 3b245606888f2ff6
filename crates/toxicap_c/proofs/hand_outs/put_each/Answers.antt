use Rattle.std.proofs.Common.{ℕ, List, [], ◌∷◌, length, ap, ap₂, ◌∙◌, arith}
use Rattle.run_files.specs.declared.outputs.Output.{Output}
use Rattle.toxicap_c.proofs.LaidParts.{part_fits, part_laid}
use Rattle.toxicap_c.proofs.hand_outs.put_each.Goals as goal

abbrev lens_in : Output → List ℕ
lens_in o = length o.capture ∷ length o.report ∷ []

abbrev two : ℕ → ℕ → List ℕ
two m n = m ∷ n ∷ []

pub put_at-requires : goal.put_at-requires
put_at-requires c =
    let loop = c.loop-output in
    let own = c.as_slice-capture.ensures ∙ ap (λ (o : Output). o.capture) c.output-item.is in
    part_fits (λ o. o.capture) c.args.outputs.now loop.output-index loop.at.captures c.output-item.result _ loop.captures _ c.loop-output-test.true own
    loop.invariant.captures (length loop.captures) (omega (arith, c.requires.captures, loop.auto.captures))

pub put_at-requires-in-loop-output : goal.put_at-requires-in-loop-output
put_at-requires-in-loop-output c =
    let loop = c.loop-output in
    let own = c.as_slice-report.ensures ∙ ap (λ (o : Output). o.report) c.output-item.is in
    part_fits (λ o. o.report) c.args.outputs.now loop.output-index loop.at.reports c.output-item.result _ loop.reports _ c.loop-output-test.true own
    loop.invariant.reports (length loop.reports) (omega (arith, c.requires.reports, loop.auto.reports))

pub put_at-requires-in-loop-output-2 : goal.put_at-requires-in-loop-output-2
put_at-requires-in-loop-output-2 c =
    let loop = c.loop-output in
    let capture = ap length (c.as_slice-capture.ensures ∙ ap (λ (o : Output). o.capture) c.output-item.is) in
    let report = ap length (c.as_slice-report.ensures ∙ ap (λ (o : Output). o.report) c.output-item.is) in
    part_fits lens_in c.args.outputs.now loop.output-index loop.at.lens c.output-item.result _ loop.lens _ c.loop-output-test.true (ap₂ two capture report)
    loop.invariant.lens (length loop.lens) (omega (arith, c.requires.lens, loop.auto.lens))

pub loop-output-preserved : goal.loop-output-preserved
loop-output-preserved c =
    let loop = c.loop-output in
    let outputs : List Output = c.args.outputs.now in
    let i : ℕ = loop.output-index in
    let d = c.output-item.result in
    let within = c.loop-output-test.true in
    let capture = c.as_slice-capture.ensures ∙ ap (λ (o : Output). o.capture) c.output-item.is in
    let report = c.as_slice-report.ensures ∙ ap (λ (o : Output). o.report) c.output-item.is in
    record {
      captures = part_laid (λ o. o.capture) outputs i loop.at.captures d _ loop.captures _ within capture loop.invariant.captures c.put_at.new.buffer c.put_at.ensures;
      reports = part_laid (λ o. o.report) outputs i loop.at.reports d _ loop.reports _ within report loop.invariant.reports c.put_at-in-loop-output.new.buffer c.put_at-in-loop-output.ensures;
      lens = part_laid lens_in outputs i loop.at.lens d _ loop.lens _ within (ap₂ two (ap length capture) (ap length report)) loop.invariant.lens c.put_at-in-loop-output-2.new.buffer
          c.put_at-in-loop-output-2.ensures;
    }
