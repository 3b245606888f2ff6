use Rattle.std.proofs.Common.{ℕ, length}
use Rattle.reassembly.specs.LineView.{bytes_of_part, bytes_of_parts, bytes_with_mark}
use Rattle.toxic_defs.specs.Slices.{AreSized, GivesSizes, AreFilled, CutOn}
use Rattle.toxic_defs.proofs.slices.slice_part.Given as goal

abbrev pub invariant-slices : goal.invariant-slices
invariant-slices l = record {
  sized : AreSized l.sizes;
  filled : AreFilled l.slices.items;
  cut : (size : ℕ → ℕ) (k : ℕ) → GivesSizes l.initial.sizes size k
      → CutOn size k l.fn.left (bytes_of_parts l.initial.slices.items) (bytes_of_part l.part) l.sizes l.left (bytes_of_parts l.slices.items) (bytes_with_mark l.part.at l.starts l.rest);
}

abbrev pub decreases-slices : goal.decreases-slices
decreases-slices l = length l.rest
