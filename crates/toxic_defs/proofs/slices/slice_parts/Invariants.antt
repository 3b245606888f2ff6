use Rattle.std.proofs.Common.{ℕ, drop}
use Rattle.reassembly.specs.LineView.{bytes_of_parts}
use Rattle.toxic_defs.specs.Slices.{AreSized, GivesSizes, AreFilled}
use Rattle.toxic_defs.proofs.SlicedParts.{LeftOver}
use Rattle.toxic_defs.proofs.slices.slice_parts.Given as goal

abbrev pub invariant-loop-part : goal.invariant-loop-part
invariant-loop-part l = record {
  sized : AreSized l.sizes;
  filled : AreFilled l.slices.items;
  cut : (size : ℕ → ℕ) → GivesSizes l.initial.sizes size 0
      → LeftOver size (bytes_of_parts l.parts) l.sizes l.left (bytes_of_parts l.slices.items) (bytes_of_parts (drop l.part-index l.parts));
}
