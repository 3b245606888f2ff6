use Rattle.std.proofs.Common.{◌≡◌, ℕ, arith, ap, ◌∙◌}
use Rattle.reassembly.specs.LineView.{bytes_of_parts}
use Rattle.toxic_defs.specs.Slices.{sliced}
use Rattle.toxic_defs.specs.Bandwidth.{rated_size}
use Rattle.toxic_defs.proofs.DelayingLaws.{sliced_keeps}
use Rattle.toxic_defs.proofs.bandwidth.run_bandwidth.Goals as goal

pub pass_chunks-requires-clause-short : goal.pass_chunks-requires-clause-short
pass_chunks-requires-clause-short c =
    let size : ℕ → ℕ = rated_size c.args.rate in
    let slices : bytes_of_parts c.deref_mut.result.now ≡ sliced size 0 0 c.args.line.line.bytes =
    ap bytes_of_parts c.deref_mut.ensures.value ∙ c.in_ok-slices.ensures.bytes size c.same-sizes.ensures.sizes
    ∙ ap (sliced size 0 0) (ap bytes_of_parts c.deref.ensures.value ∙ c.into_parts-parts.ensures) in
    let n = (sliced_keeps 0 size c.args.line.line.bytes c.requires.line.chunks).later.short in
    let short = c.requires.line.short in
    rw slices (omega (arith, n, short))
