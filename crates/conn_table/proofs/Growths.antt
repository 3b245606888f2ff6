-- What has grown of some segments, once one more was taken.
use Rattle.std.proofs.Common.{◌≡◌, ◌<◌, ◌≤◌, ◌^◌, ℕ, zero, suc, ◌+◌, Bool, true, false, cond, List, [], ◌∷◌, ◌++◌, length, map, take, set, get_or, Vec, Global, Option, Some, None, refl, sym, ap, subst, ◌∙◌, arith}
use Rattle.std.specs.Prelude.{fold}
use Rattle.std.proofs.lemmas.List.{append_assoc, append-nil, length_push, length-append, length-map, map_push, take_more}
use Rattle.std.proofs.lemmas.List.Sums.{fold_push}
use Rattle.std.proofs.lemmas.Grind.{flat_map-append}
use Rattle.indexmap.specs.IndexMap.{get}
use Rattle.conn_table.specs.declared.conns.Pair.{Pair}
use Rattle.conn_table.specs.declared.conns.Member.{Member}
use Rattle.conn_table.specs.declared.conns.Conn.{Conn}
use Rattle.conn_table.specs.declared.entries.Entry.{Entry}
use Rattle.conn_table.specs.declared.last_connections.Current.{Current}
use Rattle.conn_table.specs.declared.growth.Growth.{Growth}
use Rattle.conn_table.specs.IndexedSegments.{same_pair}
use Rattle.conn_table.specs.KeptSegments.{KeptSegment, is_again, opening_of, opens}
use Rattle.conn_table.specs.LastConnections.{IsLasts}
use Rattle.conn_table.specs.Entries.{kept_by, all_of}
use Rattle.conn_table.proofs.Peers.{same_pair-is}
use Rattle.conn_table.specs.Growing.{GrownView, member_from, conn_with, grown_at, grown_none, begins, grown_begun, grown_plain, grown_with, grown_of, shown_by, HasGrown, IsReady}

-- ---- the three cases of a segment

pub grown-begun : (old new : GrownView) (k : KeptSegment) (c : Current) → begins (old.current k.pair) k ≡ true → c ≡ record { number = length old.conns; opening = opening_of k }
    → new.conns ≡ old.conns ++ conn_with (length old.conns) k ∷ [] → ((p : Pair) → new.current p ≡ cond (same_pair k.pair p) (Some c) (old.current p)) → new.unopened ≡ old.unopened
    → new ≡ grown_with old k
grown-begun old new k c begun is conns told unopened = rw begun (λ i. record { conns = conns i; unopened = unopened i; current = λ p. current p i })
  where
    current : (p : Pair) → new.current p ≡ cond (same_pair k.pair p) (Some (record { number = length old.conns; opening = opening_of k })) (old.current p)
    current p = told p ∙ ap (λ (x : Current). cond (same_pair k.pair p) (Some x) (old.current p)) is

pub grown-plain : (old new : GrownView) (k : KeptSegment) (last : Option Current) → old.current k.pair ≡ last → begins last k ≡ false
    → new.conns ≡ (grown_plain last old k).conns → ((p : Pair) → new.current p ≡ (grown_plain last old k).current p) → new.unopened ≡ (grown_plain last old k).unopened
    → new ≡ grown_with old k
grown-plain old new k last found plain conns current unopened = rw (found, plain) (λ i. record { conns = conns i; unopened = unopened i; current = λ p. current p i })

-- an opening that is sent again
pub grown-again : (old new : GrownView) (k : KeptSegment) (last : Current) → old.current k.pair ≡ Some last → opens k ≡ true → is_again (Some last.opening) (opening_of k) ≡ true
    → new.conns ≡ grown_at last.number (member_from last.opening.from_low k) old.conns → ((p : Pair) → new.current p ≡ old.current p) → new.unopened ≡ old.unopened
    → new ≡ grown_with old k
grown-again old new k last found opened again conns current unopened =
    let plain : begins (Some last) k ≡ false = rw (opened, again) refl in
    grown-plain old new k (Some last) found plain conns current unopened

-- putting back what a pair had changes nothing
pub put_back : (old mid new : Pair → Option Current) (p : Pair) (other own : Current) → old p ≡ Some own
    → ((q : Pair) → mid q ≡ cond (same_pair p q) (Some other) (old q)) → ((q : Pair) → new q ≡ cond (same_pair p q) (Some own) (mid q)) → (q : Pair) → new q ≡ old q
put_back old mid new p other own had one two q = two q ∙ by (same_pair p q) refl
  where
    by : (t : Bool) → same_pair p q ≡ t → cond t (Some own) (mid q) ≡ old q
    by true same = sym had ∙ ap old (same_pair-is p q same)
    by false apart = one q ∙ ap (λ t. cond t (Some other) (old q)) apart

pub grown_at-set : (n : ℕ) (x : Member) (cs : List Conn) (d : Conn) → n < length cs → d ≡ get_or cs n d → set cs n (record d { members = d.members ++ x ∷ [] }) ≡ grown_at n x cs
grown_at-set n x [] d within is = absurd (omega arith)
grown_at-set zero x (c ∷ cs) d within is = ap (λ (e : Conn). record e { members = e.members ++ x ∷ [] } ∷ cs) is
grown_at-set (suc n) x (c ∷ cs) d within is = ap (λ (ys : List Conn). c ∷ ys) (grown_at-set n x cs d (omega arith) is)

-- ---- counts

length-grown_at : (n : ℕ) (x : Member) (cs : List Conn) → length (grown_at n x cs) ≡ length cs
length-grown_at n x [] = refl
length-grown_at zero x (c ∷ cs) = refl
length-grown_at (suc n) x (c ∷ cs) = ap (λ (m : ℕ). suc m) (length-grown_at n x cs)

-- there are at most n connections and unopened segments, and the last connection of a pair is one of them
record IsFew (n : ℕ) (g : GrownView) : Type 0 where
  conns : length g.conns ≤ n
  unopened : g.unopened ≤ n
  placed : (p : Pair) (x : Current) → g.current p ≡ Some x → x.number < length g.conns

few-next : (n : ℕ) (g : GrownView) (k : KeptSegment) → IsFew n g → IsFew (n + 1) (grown_with g k)
few-next n g k few = by (begins (g.current k.pair) k) (g.current k.pair)
  where
    own : Current
    own = record { number = length g.conns; opening = opening_of k }

    more : length (grown_begun g k).conns ≡ length g.conns + 1
    more = length_push g.conns (conn_with (length g.conns) k)

    by_pair : (t : Bool) (p : Pair) (x : Current) → cond t (Some own) (g.current p) ≡ Some x → x.number < length (grown_begun g k).conns
    by_pair true p x is = let e : own ≡ x = cc in let n : length g.conns ≡ x.number = ap (λ (c : Current). c.number) e in omega (arith, more, n)
    by_pair false p x is = omega (arith, more, few.placed p x is)

    by : (t : Bool) (last : Option Current) → IsFew (n + 1) (cond t (grown_begun g k) (grown_plain last g k))
    by true last = record { conns = omega (arith, more, few.conns); unopened = omega (arith, few.unopened); placed = λ p. by_pair (same_pair k.pair p) p }
    by false None = record { conns = omega (arith, few.conns); unopened = omega (arith, few.unopened); placed = few.placed }
    by false (Some c) =
        let same = length-grown_at c.number (member_from c.opening.from_low k) g.conns in
        record { conns = omega (arith, same, few.conns); unopened = omega (arith, few.unopened); placed = λ p x is. omega (arith, same, few.placed p x is) }

few-all : (ks : List KeptSegment) (n : ℕ) (g : GrownView) → IsFew n g → IsFew (n + length ks) (fold grown_with g ks)
few-all [] n g few = let e : n ≡ n + 0 = omega arith in subst (λ m. IsFew m g) e few
few-all (k ∷ ks) n g few =
    let e : n + 1 + length ks ≡ n + suc (length ks) = omega arith in
    subst (λ m. IsFew m (fold grown_with (grown_with g k) ks)) e (few-all ks (n + 1) (grown_with g k) (few-next n g k few))

pub ready : (done : List Entry) (g : Growth) → length done < 2 ^ 31 → HasGrown done g → IsReady g
unfolding grown_of
ready done g within grown =
    let none : IsFew 0 grown_none = record { conns = omega arith; unopened = omega arith; placed = λ p x is. absurd cc } in
    let few : IsFew (0 + length (map kept_by done)) (shown_by g) = subst (IsFew (0 + length (map kept_by done))) (sym grown.shown) (few-all (map kept_by done) 0 grown_none none) in
    let len = length-map done kept_by in
    record { last_connections = grown.last_connections; few = omega (arith, len, few.conns); few_unopened = omega (arith, len, few.unopened); placed = few.placed }

-- ---- one segment more

pub grown-none : (g : Growth) → g.conns.items ≡ [] → g.unopened ≡ 0 → IsLasts g.last_connections → ((p : Pair) → get same_pair g.last_connections.map p ≡ None) → HasGrown [] g
unfolding grown_of
grown-none g conns unopened last_connections empty = record { shown = λ i. record { conns = conns i; unopened = unopened i; current = λ p. empty p i }; last_connections = last_connections }

pub grown-next : (done : List Entry) (e : Entry) (old new : Growth) → HasGrown done old → shown_by new ≡ grown_with (shown_by old) (kept_by e) → IsLasts new.last_connections → HasGrown (done ++ e ∷ []) new
unfolding grown_of
grown-next done e old new grown next last_connections = record {
  shown =
      next ∙ ap (λ (g : GrownView). grown_with g (kept_by e)) grown.shown
      ∙ sym (ap (λ ks. fold grown_with grown_none ks) (map_push kept_by done e) ∙ fold_push grown_with grown_none (map kept_by done) (kept_by e));
  last_connections = last_connections;
}

-- after some segments, one more of a list
pub taken-next : (done es : List Entry) (i : ℕ) (e : Entry) → i < length es → e ≡ get_or es i e → done ++ take (i + 1) es ≡ (done ++ take i es) ++ e ∷ []
taken-next done es i e within is =
    ap (λ xs. done ++ xs) (take_more es i e within ∙ ap (λ x. take i es ++ x ∷ []) (sym is)) ∙ sym (append_assoc done (take i es) (e ∷ []))

-- ---- ranges

abbrev items_of : Vec Entry Global → List Entry
items_of r = r.items

pub all_of-append : (rs ss : List (Vec Entry Global)) → all_of (rs ++ ss) ≡ all_of rs ++ all_of ss
all_of-append rs ss = flat_map-append items_of rs ss

pub all_of-one : (r : Vec Entry Global) → all_of (r ∷ []) ≡ r.items
all_of-one r = append-nil r.items

pub all_of-push : (rs : List (Vec Entry Global)) (r : Vec Entry Global) → all_of (rs ++ r ∷ []) ≡ all_of rs ++ r.items
all_of-push rs r = all_of-append rs (r ∷ []) ∙ ap (λ es. all_of rs ++ es) (all_of-one r)

pub all_of-longer : (rs rest : List (Vec Entry Global)) (r : Vec Entry Global) → length (all_of rs) + length r.items ≤ length (all_of (rs ++ r ∷ rest))
all_of-longer rs rest r =
    omega (arith, ap length (all_of-append rs (r ∷ rest)), length-append (all_of rs) (all_of (r ∷ rest)), length-append r.items (all_of rest))
