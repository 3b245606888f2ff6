-- What the filters find in segments with one more, whose number is above the others'.
use Rattle.std.proofs.Common.{◌≡◌, ◌<◌, ℕ, ◌+◌, nat_lt, nat_le, not, Bool, true, false, ◌&&◌, cond, List, [], ◌∷◌, ◌++◌, length, filter, Some, None, is_none, refl, ap, ◌∙◌, arith}
use Rattle.std.proofs.lemmas.Bool.{le-ltb, lt-ltb, lt-leb, le-leb, and_right}
use Rattle.std.proofs.Math.Bool.{and-true}
use Rattle.std.proofs.lemmas.List.{append-nil, length-append}
use Rattle.std.proofs.lemmas.List.Elements.{filter-append}
use Rattle.lists.proofs.Lists.{all_weaker, all_filter}
use Rattle.conn_table.specs.declared.conns.Pair.{Pair}
use Rattle.conn_table.specs.IndexedSegments.{IndexedSegment, same_pair, pair_of_segment}
use Rattle.conn_table.specs.Connections.{is_opening, of_one_pair, repeats, begins_in, beginnings, beginning_of, is_at, is_unopened, unopened_count, later_members, last_of}
use Rattle.conn_table.proofs.GroupingFilters.{filter_alike, last_or-push}
use Rattle.conn_table.proofs.GroupingOrder.{AreBelow}
use Rattle.conn_table.proofs.Peers.{one_pair-itself}

abbrev pub with_next : List IndexedSegment → IndexedSegment → List IndexedSegment
with_next xs s = xs ++ s ∷ []

filter_out : (P : IndexedSegment → Bool) (xs : List IndexedSegment) (s : IndexedSegment) → P s ≡ false → filter P (with_next xs s) ≡ filter P xs
filter_out P xs s fails = filter-append P xs (s ∷ []) ∙ rw fails (append-nil (filter P xs))

-- the openings of a pair
abbrev pub openings : List IndexedSegment → Pair → List IndexedSegment
openings xs p = filter (λ x. is_opening x && same_pair (pair_of_segment x) p) xs

begins_stays : (xs : List IndexedSegment) (s x : IndexedSegment) → x.index < s.index → begins_in (with_next xs s) x ≡ begins_in xs x
begins_stays xs s x below =
    ap (λ os. is_opening x && not (repeats (last_of os) x))
    (filter_out (λ y. is_opening y && of_one_pair x y && nat_lt y.index x.index) xs s (and_right (is_opening s && of_one_pair x s) (nat_lt s.index x.index) (le-ltb s.index x.index (omega arith))))

pub begins_next : (xs : List IndexedSegment) (s : IndexedSegment) → AreBelow s.index xs → begins_in (with_next xs s) s ≡ (is_opening s && not (repeats (last_of (openings xs (pair_of_segment s))) s))
begins_next xs s below =
    let P : IndexedSegment → Bool = λ y. is_opening y && of_one_pair s y && nat_lt y.index s.index in
    let Q : IndexedSegment → Bool = λ y. is_opening y && of_one_pair s y in
    let same = filter_alike P Q xs (all_weaker (λ y. y.index < s.index) (λ y. P y ≡ Q y) (λ y is. rw (lt-ltb y.index s.index is) (and-true (Q y))) xs below) in
    ap (λ os. is_opening s && not (repeats (last_of os) s)) (filter_out P xs s (and_right (Q s) (nat_lt s.index s.index) (le-ltb s.index s.index (omega arith))) ∙ same)

pub beginnings_next : (xs : List IndexedSegment) (s : IndexedSegment) → AreBelow s.index xs → beginnings (with_next xs s) ≡ beginnings xs ++ cond (begins_in (with_next xs s) s) (s ∷ []) []
unfolding beginnings
beginnings_next xs s below =
    filter-append (begins_in (with_next xs s)) xs (s ∷ [])
    ∙ ap (λ bs. bs ++ cond (begins_in (with_next xs s) s) (s ∷ []) [])
    (filter_alike (begins_in (with_next xs s)) (begins_in xs) xs (all_weaker (λ x. x.index < s.index) (λ x. begins_in (with_next xs s) x ≡ begins_in xs x) (begins_stays xs s) xs below))

pub begun_below : (n : ℕ) (xs : List IndexedSegment) → AreBelow n xs → AreBelow n (beginnings xs)
unfolding beginnings
begun_below n xs below = all_filter (λ x. x.index < n) (begins_in xs) xs below

belongs_stays : (xs : List IndexedSegment) (s x : IndexedSegment) → AreBelow s.index xs → x.index < s.index → beginning_of (with_next xs s) x ≡ beginning_of xs x
belongs_stays xs s x all below =
    let T : IndexedSegment → Bool = λ b. of_one_pair x b && nat_le b.index x.index in
    ap (λ bs. last_of (filter T bs)) (beginnings_next xs s all)
    ∙ ap (λ bs. last_of bs) (by_test (begins_in (with_next xs s) s) (and_right (of_one_pair x s) (nat_le s.index x.index) (lt-leb s.index x.index below)))
  where
    by_test : (t : Bool) → (of_one_pair x s && nat_le s.index x.index) ≡ false
        → filter (λ b. of_one_pair x b && nat_le b.index x.index) (beginnings xs ++ cond t (s ∷ []) []) ≡ filter (λ b. of_one_pair x b && nat_le b.index x.index) (beginnings xs)
    by_test true fails = filter_out (λ b. of_one_pair x b && nat_le b.index x.index) (beginnings xs) s fails
    by_test false fails = ap (filter (λ b. of_one_pair x b && nat_le b.index x.index)) (append-nil (beginnings xs))

-- it belongs to itself, or to its pair's last beginning
pub belongs_next : (xs : List IndexedSegment) (s : IndexedSegment) → AreBelow s.index xs
    → beginning_of (with_next xs s) s ≡ cond (begins_in (with_next xs s) s) (Some s) (last_of (filter (of_one_pair s) (beginnings xs)))
belongs_next xs s below =
    let T : IndexedSegment → Bool = λ b. of_one_pair s b && nat_le b.index s.index in
    let same = filter_alike T (of_one_pair s) (beginnings xs)
    (all_weaker (λ b. b.index < s.index) (λ b. T b ≡ of_one_pair s b) (λ b is. rw (le-leb b.index s.index (omega arith)) (and-true (of_one_pair s b))) (beginnings xs) (begun_below s.index xs below)) in
    let itself : T s ≡ true = rw (one_pair-itself s) (le-leb s.index s.index (omega arith)) in
    ap (λ bs. last_of (filter T bs)) (beginnings_next xs s below) ∙ by_test (begins_in (with_next xs s) s) itself same
  where
    by_test : (t : Bool) → (of_one_pair s s && nat_le s.index s.index) ≡ true
        → filter (λ b. of_one_pair s b && nat_le b.index s.index) (beginnings xs) ≡ filter (of_one_pair s) (beginnings xs)
        → last_of (filter (λ b. of_one_pair s b && nat_le b.index s.index) (beginnings xs ++ cond t (s ∷ []) [])) ≡ cond t (Some s) (last_of (filter (of_one_pair s) (beginnings xs)))
    by_test true itself same = last_or-push None (λ b. of_one_pair s b && nat_le b.index s.index) (beginnings xs) s ∙ rw itself refl
    by_test false itself same = ap (λ bs. last_of (filter (λ b. of_one_pair s b && nat_le b.index s.index) bs)) (append-nil (beginnings xs)) ∙ ap (λ bs. last_of bs) same

abbrev pub more_of : Bool → IndexedSegment → List IndexedSegment
more_of t s = cond t (s ∷ []) []

pub later_next : (xs : List IndexedSegment) (s b : IndexedSegment) → AreBelow s.index xs
    → later_members (with_next xs s) b ≡ later_members xs b ++ more_of (nat_lt b.index s.index && is_at b (beginning_of (with_next xs s) s)) s
later_next xs s b below =
    let Q : List IndexedSegment → IndexedSegment → Bool = λ all x. nat_lt b.index x.index && is_at b (beginning_of all x) in
    filter-append (Q (with_next xs s)) xs (s ∷ [])
    ∙ ap (λ ys. ys ++ more_of (Q (with_next xs s) s) s)
    (filter_alike (Q (with_next xs s)) (Q xs) xs
    (all_weaker (λ x. x.index < s.index) (λ x. Q (with_next xs s) x ≡ Q xs x) (λ x is. ap (λ o. nat_lt b.index x.index && is_at b o) (belongs_stays xs s x below is)) xs below))

pub unopened_next : (xs : List IndexedSegment) (s : IndexedSegment) → AreBelow s.index xs → unopened_count (with_next xs s) ≡ unopened_count xs + cond (is_none (beginning_of (with_next xs s) s)) 1 0
unfolding unopened_count
unopened_next xs s below =
    let same = filter_alike (is_unopened (with_next xs s)) (is_unopened xs) xs
    (all_weaker (λ x. x.index < s.index) (λ x. is_unopened (with_next xs s) x ≡ is_unopened xs x) (λ x is. ap (λ o. is_none o) (belongs_stays xs s x below is)) xs below) in
    ap (λ ys. length ys) (filter-append (is_unopened (with_next xs s)) xs (s ∷ []) ∙ ap (λ ys. ys ++ more_of (is_unopened (with_next xs s) s) s) same)
    ∙ length-append (filter (is_unopened xs) xs) (more_of (is_unopened (with_next xs s) s) s)
    ∙ ap (λ n. length (filter (is_unopened xs) xs) + n) (by_test (is_unopened (with_next xs s) s))
  where
    by_test : (t : Bool) → length (more_of t s) ≡ cond t 1 0
    by_test true = refl
    by_test false = refl
