-- The numbers of a capture's segments rise.
use Rattle.std.proofs.Common.{◌≡◌, ◌<◌, ◌≤◌, ℕ, ◌+◌, Bool, true, false, cond, List, [], ◌∷◌, ◌++◌, Option, Some, None, refl, arith}
use Rattle.std.specs.List.{AllByRecursion, filter_map, cons_option, enumerate_from}
use Rattle.conn_table.specs.SeenCapture.{SeenPacket}
use Rattle.conn_table.specs.IndexedSegments.{IndexedSegment, is_segment, indexed_segment, indexed_segments}
use Rattle.lists.proofs.Lists.{all_weaker, all_push}

abbrev pub AreBelow : ℕ → List IndexedSegment → Type 0
AreBelow n = AllByRecursion (λ (x : IndexedSegment). x.index < n)

abbrev pub AreFrom : ℕ → List IndexedSegment → Type 0
AreFrom n = AllByRecursion (λ (x : IndexedSegment). n ≤ x.index)

-- each number is above the one before, and the first is n at least
abbrev pub IsRising : ℕ → List IndexedSegment → Type 0
IsRising n [] = Unit {0}
IsRising n (s ∷ segs) = (n ≤ s.index) × IsRising (s.index + 1) segs

pub AreFrom-rising : (n : ℕ) (segs : List IndexedSegment) → IsRising n segs → AreFrom n segs
AreFrom-rising n [] rising = tt
AreFrom-rising n (s ∷ segs) rising =
    let behind : AreFrom (s.index + 1) segs = AreFrom-rising (s.index + 1) segs rising.1 in
    (rising.0, all_weaker (λ x. s.index + 1 ≤ x.index) (λ x. n ≤ x.index) (λ x above. omega (arith, rising.0)) segs behind)

-- segments that lie below n also lie below a later one, and with it below what stands after it
pub below_at : (n : ℕ) (s : IndexedSegment) (earlier : List IndexedSegment) → n ≤ s.index → AreBelow n earlier → AreBelow s.index earlier
below_at n s earlier above below = all_weaker (λ x. x.index < n) (λ x. x.index < s.index) (λ x is. omega (arith, above)) earlier below

pub below_next : (n : ℕ) (s : IndexedSegment) (earlier : List IndexedSegment) → n ≤ s.index → AreBelow n earlier → AreBelow (s.index + 1) (earlier ++ s ∷ [])
below_next n s earlier above below =
    all_push (λ x. x.index < s.index + 1) earlier s (all_weaker (λ x. x.index < n) (λ x. x.index < s.index + 1) (λ x is. omega (arith, above)) earlier below) (omega arith)

-- ---- the segments of a capture

pub rising_lower : (m n : ℕ) (segs : List IndexedSegment) → m ≤ n → IsRising n segs → IsRising m segs
rising_lower m n [] le rising = tt
rising_lower m n (s ∷ segs) le rising = (omega (arith, rising.0), rising.1)

rising_cons : (n : ℕ) (o : Option IndexedSegment) (segs : List IndexedSegment) → ((s : IndexedSegment) → o ≡ Some s → s.index ≡ n) → IsRising (n + 1) segs → IsRising n (cons_option o segs)
rising_cons n None segs is_numbered rising = rising_lower n (n + 1) segs (omega arith) rising
rising_cons n (Some s) segs is_numbered rising = let here : s.index ≡ n = is_numbered s refl in (omega arith, rw here rising)

index-indexed_segment : (n : ℕ) (p : SeenPacket) (s : IndexedSegment) → indexed_segment (n, p) ≡ Some s → s.index ≡ n
index-indexed_segment n p s = by_test (is_segment p.frame.class)
  where
    by_test : (b : Bool) → cond b (Some (record { index = n; timed = record { at = p.at; fields = p.frame.fields } })) None ≡ Some s → s.index ≡ n
    by_test true is = cc
    by_test false is = cc

pub rising_between : (n : ℕ) (packets : List SeenPacket) → IsRising n (indexed_segments n packets)
unfolding indexed_segments
rising_between n [] = tt
rising_between n (p ∷ packets) =
    rising_cons n (indexed_segment (n, p)) (filter_map indexed_segment (enumerate_from (n + 1) packets)) (index-indexed_segment n p) (rising_between (n + 1) packets)
