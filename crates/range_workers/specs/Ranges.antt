-- How the records of a capture are cut into ranges, and the partials of these.
use Rattle.std.specs.Prelude.{◌≡◌, ◌≤◌, ◌<◌, ℕ, ◌+◌, List, [], ◌∷◌, length, All, map}
use Rattle.pcap_records.specs.CaptureView.{CaptureView}
use Rattle.conn_table.specs.Partials.{carried, PartialView, partial_in, joined_partial}
use Rattle.range_workers.specs.declared.ranges.Range.{Range}
use Rattle.conn_table.specs.ClassCounts.{counts_of}

-- ---- how the records of a capture are cut into ranges

abbrev pub range_in : CaptureView → ℕ → ℕ → Range
range_in c from to = record { from = from; to = to; carry = carried c 0 from 0 }

-- The ranges of the records from number `from` on: each has `cut` records, except the last, which has what is left, at most `cut`.
abbrev pub AreRanges : CaptureView → ℕ → ℕ → List Range → Type 0
AreRanges c cut from [] = ⊥
AreRanges c cut from (r ∷ []) =
    (r ≡ range_in c from (length c.records)) × (from ≤ length c.records) × (length c.records ≤ from + cut)
AreRanges c cut from (r ∷ s ∷ rs) =
    (r ≡ range_in c from (from + cut)) × (from + cut < length c.records) × AreRanges c cut (from + cut) (s ∷ rs)

abbrev pub IsWithin : CaptureView → Range → Type 0
IsWithin c r = (r.from ≤ r.to) × (r.to ≤ length c.records)

abbrev pub AreWithin : CaptureView → List Range → Type 0
AreWithin c rs = All (IsWithin c) rs

-- ---- the partials of ranges, and of adjacent ranges together

abbrev pub partial_of : CaptureView → Range → PartialView
partial_of c r = partial_in c r.from r.to r.carry

abbrev pub partials_of : CaptureView → List Range → List PartialView
partials_of c rs = map (partial_of c) rs

abbrev pub no_partial : PartialView
no_partial = record { from = 0; to = 0; counts = counts_of []; segments = [] }

abbrev pub AreAdjacentFrom : ℕ → List PartialView → Type 0
AreAdjacentFrom at [] = Unit {0}
AreAdjacentFrom at (p ∷ ps) = (at ≡ p.from) × AreAdjacentFrom p.to ps

-- there is one, and each other begins where the one before it ends
abbrev pub AreAdjacent : List PartialView → Type 0
AreAdjacent [] = ⊥
AreAdjacent (p ∷ ps) = AreAdjacentFrom p.to ps

abbrev pub joined_to : PartialView → List PartialView → PartialView
joined_to p [] = p
joined_to p (q ∷ qs) = joined_to (joined_partial p q) qs

abbrev pub joined_all : List PartialView → PartialView
joined_all [] = no_partial
joined_all (p ∷ ps) = joined_to p ps
