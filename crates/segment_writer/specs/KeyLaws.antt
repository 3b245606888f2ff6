-- Keys of segments: none stands twice, so segments have one order by key.
use Rattle.std.specs.Prelude.{◌≡◌, ◌≤◌, ℕ, ◌+◌, Bool, ◌&&◌, not, List, [], ◌∷◌}
use Rattle.std.specs.List.{count_by, flat_map}
use Rattle.std.specs.List.Sorted.{IsPermutation}
use Rattle.segment_writer.specs.declared.framed.SegKey.{SegKey}
use Rattle.segment_writer.specs.declared.framed.Framed.{Framed}
use Rattle.segment_writer.specs.WrittenSegments.{WrittenConnection, is_key_below, below, sorted_by_key, written_segments}
use Rattle.segment_writer.specs.OrderedLists.{Ordered}
use Rattle.segment_writer.specs.KeyOrder.{AreRising}

-- neither key is below the other
abbrev pub same_key : SegKey → SegKey → Bool
same_key a b = not (is_key_below a b) && not (is_key_below b a)

abbrev pub HasNoKeyTwice : List Framed → Type 0
HasNoKeyTwice xs = (k : SegKey) → count_by (λ x. same_key k x.key) xs ≤ 1

-- no segment stands before one with a lower key
abbrev pub NeverFalls : List Framed → Type 0
NeverFalls = Ordered below

-- if no key stands twice, segments have one order, whichever stands first
abbrev pub OneOrder : Type 0
OneOrder = (xs ys : List Framed) → HasNoKeyTwice xs → IsPermutation xs ys → sorted_by_key ys ≡ sorted_by_key xs

abbrev pub SortedNeverFalls : Type 0
SortedNeverFalls = (xs : List Framed) → NeverFalls (sorted_by_key xs)

abbrev pub OnceInAnyOrder : Type 0
OnceInAnyOrder = (xs ys : List Framed) → IsPermutation xs ys → HasNoKeyTwice xs → HasNoKeyTwice ys

-- the keys of a written connection's segments rise, whatever its lines are
abbrev pub KeysRise : Type 0
KeysRise = (ticks : ℕ) (c : WrittenConnection) → AreRising (written_segments ticks c)

-- the connections have the numbers n, n + 1 and so on
abbrev pub AreNumbered : ℕ → List WrittenConnection → Type 0
AreNumbered n [] = Unit {0}
AreNumbered n (c ∷ cs) = (c.number ≡ n) × AreNumbered (n + 1) cs

abbrev pub KeysStandOnce : Type 0
KeysStandOnce = (ticks n : ℕ) (cs : List WrittenConnection) → AreNumbered n cs → HasNoKeyTwice (flat_map (written_segments ticks) cs)
