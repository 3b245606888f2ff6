-- Segments without a VLAN make the connections that they made before frames with a tag.
use Rattle.std.proofs.Common.{◌≡◌, ℕ, ◌+◌, Bool, cond, ◌&&◌, not, nat_lt, nat_le, List, [], ◌∷◌, length, map, filter, Option, None, is_none, refl, ap, ap₂, ◌∙◌}
use Rattle.std.specs.List.{AllByRecursion, enumerate_from}
use Rattle.std.proofs.lemmas.List.Elements.{All-from_recursion, recursion_from_All, All-filter}
use Rattle.conn_table.specs.IndexedSegments.{IndexedSegment, same_vlan}
use Rattle.conn_table.specs.Connections.{last_of, is_opening, of_one_pair, repeats, openings_before, begins_in, beginnings, beginning_of, is_at, later_members, Connection, connection_of, connections, is_unopened, unopened_count}
use Rattle.reassembly.specs.Positions.{vlan_of}
use Rattle.old_answers.specs.ConnectionsBefore.{of_one_pair_before, openings_before_before, begins_before, beginnings_before, beginning_of_before, later_members_before, connection_of_before, connections_before, is_unopened_before, unopened_count_before}
use Rattle.old_answers.proofs.FramesKept.{HasNoVlan}

one_pair_kept : (s x : IndexedSegment) → HasNoVlan s → HasNoVlan x → of_one_pair s x ≡ of_one_pair_before s x
one_pair_kept s x s_has_none x_has_none = ap₂ (λ (v w : Option ℕ). same_vlan v w && of_one_pair_before s x) x_has_none s_has_none

-- tests that agree on segments without a VLAN keep the same of these
keeps_same : (test test_before : IndexedSegment → Bool) → ((x : IndexedSegment) → HasNoVlan x → test x ≡ test_before x)
    → (xs : List IndexedSegment) → AllByRecursion HasNoVlan xs → filter test xs ≡ filter test_before xs
keeps_same test test_before agree [] none = refl
keeps_same test test_before agree (x ∷ xs) none =
    ap₂ (λ (passes : Bool) (rest : List IndexedSegment). cond passes (x ∷ rest) rest) (agree x none.0) (keeps_same test test_before agree xs none.1)

openings_kept : (segs : List IndexedSegment) (s : IndexedSegment) → AllByRecursion HasNoVlan segs → HasNoVlan s → openings_before segs s ≡ openings_before_before segs s
openings_kept segs s none s_has_none =
    keeps_same (λ x. is_opening x && of_one_pair s x && nat_lt x.index s.index) (λ x. is_opening x && of_one_pair_before s x && nat_lt x.index s.index)
    (λ x x_has_none. ap (λ (paired : Bool). is_opening x && paired && nat_lt x.index s.index) (one_pair_kept s x s_has_none x_has_none)) segs none

begins_kept : (segs : List IndexedSegment) (s : IndexedSegment) → AllByRecursion HasNoVlan segs → HasNoVlan s → begins_in segs s ≡ begins_before segs s
begins_kept segs s none s_has_none =
    ap (λ (openings : List IndexedSegment). is_opening s && not (repeats (last_of openings) s)) (openings_kept segs s none s_has_none)

beginnings_kept : (segs : List IndexedSegment) → AllByRecursion HasNoVlan segs → beginnings segs ≡ beginnings_before segs
unfolding beginnings beginnings_before
beginnings_kept segs none = keeps_same (begins_in segs) (begins_before segs) (λ s s_has_none. begins_kept segs s none s_has_none) segs none

beginnings_have_none : (segs : List IndexedSegment) → AllByRecursion HasNoVlan segs → AllByRecursion HasNoVlan (beginnings_before segs)
unfolding beginnings_before
beginnings_have_none segs none =
    recursion_from_All HasNoVlan (filter (begins_before segs) segs) (All-filter (begins_before segs) HasNoVlan segs (All-from_recursion HasNoVlan segs none))

beginning_kept : (segs : List IndexedSegment) (s : IndexedSegment) → AllByRecursion HasNoVlan segs → HasNoVlan s → beginning_of segs s ≡ beginning_of_before segs s
beginning_kept segs s none s_has_none =
    ap (λ (begun : List IndexedSegment). last_of (filter (λ b. of_one_pair s b && nat_le b.index s.index) begun)) (beginnings_kept segs none)
    ∙ ap last_of
    (keeps_same (λ b. of_one_pair s b && nat_le b.index s.index) (λ b. of_one_pair_before s b && nat_le b.index s.index)
    (λ b b_has_none. ap (λ (paired : Bool). paired && nat_le b.index s.index) (one_pair_kept s b s_has_none b_has_none))
    (beginnings_before segs) (beginnings_have_none segs none))

members_kept : (segs : List IndexedSegment) (b : IndexedSegment) → AllByRecursion HasNoVlan segs → later_members segs b ≡ later_members_before segs b
members_kept segs b none =
    keeps_same (λ s. nat_lt b.index s.index && is_at b (beginning_of segs s)) (λ s. nat_lt b.index s.index && is_at b (beginning_of_before segs s))
    (λ s s_has_none. ap (λ (begun : Option IndexedSegment). nat_lt b.index s.index && is_at b begun) (beginning_kept segs s none s_has_none)) segs none

each_kept : (segs : List IndexedSegment) → AllByRecursion HasNoVlan segs → (bs : List (ℕ × IndexedSegment)) → map (connection_of segs) bs ≡ map (connection_of_before segs) bs
each_kept segs none [] = refl
each_kept segs none ((number, b) ∷ bs) =
    ap₂ (λ (later : List IndexedSegment) (more : List Connection). let c : Connection = record { number = number; opening = b.timed; later = map (λ s. s.timed) later } in c ∷ more)
    (members_kept segs b none) (each_kept segs none bs)

pub connections_kept : (segs : List IndexedSegment) → AllByRecursion HasNoVlan segs → connections segs ≡ connections_before segs
unfolding connections connections_before
connections_kept segs none =
    ap (λ (begun : List IndexedSegment). map (connection_of segs) (enumerate_from 0 begun)) (beginnings_kept segs none)
    ∙ each_kept segs none (enumerate_from 0 (beginnings_before segs))

pub unopened_kept : (segs : List IndexedSegment) → AllByRecursion HasNoVlan segs → unopened_count segs ≡ unopened_count_before segs
unfolding unopened_count unopened_count_before
unopened_kept segs none =
    ap length
    (keeps_same (is_unopened segs) (is_unopened_before segs) (λ s s_has_none. ap is_none (beginning_kept segs s none s_has_none)) segs none)

-- ---- no VLAN

each_has_none : (segs : List IndexedSegment) (n : ℕ) (bs : List IndexedSegment) → AllByRecursion HasNoVlan bs
    → AllByRecursion (λ (c : Connection). vlan_of c ≡ None) (map (connection_of_before segs) (enumerate_from n bs))
each_has_none segs n [] none = tt
each_has_none segs n (b ∷ bs) none = (none.0, each_has_none segs (n + 1) bs none.1)

pub connections_have_none : (segs : List IndexedSegment) → AllByRecursion HasNoVlan segs → AllByRecursion (λ (c : Connection). vlan_of c ≡ None) (connections_before segs)
unfolding connections_before
connections_have_none segs none = each_has_none segs 0 (beginnings_before segs) (beginnings_have_none segs none)
