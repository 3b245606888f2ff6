-- Ranges that follow one another, and the join of their partials.
use Rattle.std.proofs.Common.{◌≡◌, ◌<◌, ℕ, ◌+◌, List, [], ◌∷◌, ◌++◌, length, refl, sym, ap, ◌∙◌, subst, arith}
use Rattle.std.proofs.lemmas.List.{append_assoc}
use Rattle.std.proofs.lemmas.List.Elements.{All-nil, All-cons}
use Rattle.pcap_records.specs.CaptureView.{CaptureView}
use Rattle.conn_table.specs.Partials.{partial_in, JoinsAgree}
use Rattle.range_workers.specs.declared.ranges.Range.{Range}
use Rattle.range_workers.specs.Ranges.{range_in, AreRanges, IsWithin, AreWithin, partials_of, AreAdjacentFrom, AreAdjacent, joined_to, joined_all}

range_before : (c : CaptureView) (cut from : ℕ) (r : Range) (rs : List Range)
    → r ≡ range_in c from (from + cut) → from + cut < length c.records → AreRanges c cut (from + cut) rs → AreRanges c cut from (r ∷ rs)
range_before c cut from r [] is within none = absurd none
range_before c cut from r (s ∷ rs) is within rest = (is, within, rest)

-- if rs can be completed by any ranges from a record on, rs and one more can be completed by any ranges after that one
pub one_more : (c : CaptureView) (cut from to : ℕ) (rs more : List Range) (r : Range)
    → ((rest : List Range) → AreRanges c cut from rest → AreRanges c cut 0 (rs ++ rest))
    → r ≡ range_in c from to → to ≡ from + cut → to < length c.records → more ≡ rs ++ r ∷ []
    → (rest : List Range) → AreRanges c cut to rest → AreRanges c cut 0 (more ++ rest)
one_more c cut from to rs more r stand is at within all rest behind =
    let e : more ++ rest ≡ rs ++ r ∷ rest = rw all (append_assoc rs (r ∷ []) rest) in
    subst (AreRanges c cut 0) (sym e)
    (stand (r ∷ rest) (range_before c cut from r rest (is ∙ ap (range_in c from) at) (omega (arith, at, within)) (subst (λ n. AreRanges c cut n rest) at behind)))

pub are_within : (c : CaptureView) (cut from : ℕ) (rs : List Range) → AreRanges c cut from rs → AreWithin c rs
are_within c cut from [] none = absurd none
are_within c cut from (r ∷ []) (is, start, end) = All-cons (IsWithin c) r [] (rw is (start, omega arith)) (All-nil (IsWithin c))
are_within c cut from (r ∷ s ∷ rs) (is, within, rest) =
    All-cons (IsWithin c) r (s ∷ rs) (rw is (omega arith, omega (arith, within))) (are_within c cut (from + cut) (s ∷ rs) rest)

adjacent_from : (c : CaptureView) (cut from : ℕ) (rs : List Range) → AreRanges c cut from rs → AreAdjacentFrom from (partials_of c rs)
unfolding partial_in
adjacent_from c cut from [] none = absurd none
adjacent_from c cut from (r ∷ []) (is, start, end) = (ap (λ x. x.from) (sym is), tt)
adjacent_from c cut from (r ∷ s ∷ rs) (is, within, rest) = rw is (refl, adjacent_from c cut (from + cut) (s ∷ rs) rest)

pub are_adjacent : (c : CaptureView) (cut from : ℕ) (rs : List Range) → AreRanges c cut from rs → AreAdjacent (partials_of c rs)
are_adjacent c cut from [] none = absurd none
are_adjacent c cut from (r ∷ rs) all = (adjacent_from c cut from (r ∷ rs) all).1

-- joined in turn to the partial of all records before them, they give that of all records
all_joined : JoinsAgree → (c : CaptureView) (cut from : ℕ) (rs : List Range) → AreRanges c cut from rs
    → joined_to (partial_in c 0 from 0) (partials_of c rs) ≡ partial_in c 0 (length c.records) 0
all_joined joins c cut from [] none = absurd none
all_joined joins c cut from (r ∷ []) (is, start, end) = rw is (joins c 0 from (length c.records) 0 (omega arith) start (omega arith))
all_joined joins c cut from (r ∷ s ∷ rs) (is, within, rest) =
    rw (is, joins c 0 from (from + cut) 0 (omega arith) (omega arith) (omega (arith, within))) (all_joined joins c cut (from + cut) (s ∷ rs) rest)

pub whole_joined : JoinsAgree → (c : CaptureView) (cut : ℕ) (rs : List Range) → AreRanges c cut 0 rs
    → joined_all (partials_of c rs) ≡ partial_in c 0 (length c.records) 0
whole_joined joins c cut [] none = absurd none
whole_joined joins c cut (r ∷ []) (is, start, end) = rw is refl
whole_joined joins c cut (r ∷ s ∷ rs) (is, within, rest) = rw is (all_joined joins c cut (0 + cut) (s ∷ rs) rest)
