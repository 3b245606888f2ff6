-- Segments whose keys rise: to sort them by key changes nothing.
use Rattle.std.specs.Prelude.{◌≡◌, true, List, [], ◌∷◌}
use Rattle.segment_writer.specs.declared.framed.SegKey.{SegKey}
use Rattle.segment_writer.specs.declared.framed.Framed.{Framed}
use Rattle.segment_writer.specs.WrittenSegments.{is_key_below, sorted_by_key}

-- each key is above the one before it, and the first is above k
abbrev pub RisesFrom : SegKey → List Framed → Type 0
RisesFrom k [] = Unit {0}
RisesFrom k (x ∷ xs) = (is_key_below k x.key ≡ true) × RisesFrom x.key xs

abbrev pub AreRising : List Framed → Type 0
AreRising [] = Unit {0}
AreRising (x ∷ xs) = RisesFrom x.key xs

abbrev pub RisingIsSorted : Type 0
RisingIsSorted = (xs : List Framed) → AreRising xs → sorted_by_key xs ≡ xs
