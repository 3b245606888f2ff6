use Rattle.std.proofs.Common.{◌≡◌, take}
use Rattle.toxicap_c.specs.Buffers.{output_sizes, put_of, sizes_by}
use Rattle.toxicap_c.proofs.sizes.sizes_of.Given as goal

abbrev pub invariant-loop-output : goal.invariant-loop-output
invariant-loop-output l = l.sizes ≡ sizes_by output_sizes (put_of (take l.output-index l.outputs))
