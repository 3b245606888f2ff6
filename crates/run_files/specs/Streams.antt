-- Readers and writers that count their failed calls.
use Rattle.std.specs.Prelude.{ℕ, List}
use Rattle.run_files.specs.Words.{Bor, flat_map}

pub record CountedView (T : Type 0) : Type 0 where
  pub inner : T
  pub failed : ℕ

abbrev pub joined : List (Bor (List ℕ)) → List ℕ
joined slices = flat_map (λ s. s.now) slices
