-- Segments in order of key.
use Rattle.std.proofs.Common.{◌≡◌, ℕ, Bool, true, false, cond, ◌||◌, ◌&&◌, ◌==◌, nat_lt, nat_cmp, is_lt, List, [], ◌∷◌, ◌++◌, if◌then◌else◌, refl, ap, ◌∙◌, subst, Ordering, Less, Equal, Greater}
use Rattle.std.specs.Cmp.{IsStrictWeakOrder}
use Rattle.std.specs.Ordering.{ordering_then}
use Rattle.std.specs.List.Sorted.{IsPermutation, IsSortedBy, IsSortedByKey, IsStableBy, IsStableByKey}
use Rattle.std.proofs.lemmas.List.Sorted.{ranks_by}
use Rattle.segment_writer.specs.declared.framed.SegKey.{SegKey}
use Rattle.segment_writer.specs.declared.framed.Framed.{Framed}
use Rattle.segment_writer.specs.contracts.framed.SegKeyOrd.TheImpl.{ghosts}
use Rattle.segment_writer.specs.contracts.framed.SegKeyOrd.TheImpl.Laws.{total-law}
use Rattle.segment_writer.specs.WrittenSegments.{is_key_below, has_lower_key, below, insert_by_key, sorted_by_key}
use Rattle.segment_writer.specs.KeyLaws.{NeverFalls, SortedNeverFalls}
use Rattle.segment_writer.specs.KeyOrder.{RisesFrom, RisingIsSorted}
use Rattle.segment_writer.specs.OrderedLists.{NoneBelow, Ordered, insert_by, sorted_by}
use Rattle.segment_writer.proofs.Sorting.{ordered_stays, keeps_all, none_below-chain, ordered-sorted, sorted-append, sorted-only, sorted_ordered}

-- ---- the derived order of keys is that of the definition

last_test : (b c : Bool) → is_lt (cond b Less (cond c Equal Greater)) ≡ b
last_test true c = refl
last_test false true = refl
last_test false false = refl

next_test : (b c : Bool) (o : Ordering) → is_lt (ordering_then (cond b Less (cond c Equal Greater)) o) ≡ (b || (c && is_lt o))
next_test true c o = refl
next_test false true o = refl
next_test false false o = refl

then_test : (m n : ℕ) (o : Ordering) (t : Bool) → is_lt o ≡ t → is_lt (ordering_then (nat_cmp m n) o) ≡ (nat_lt m n || (m == n && t))
then_test m n o t h = next_test (nat_lt m n) (m == n) o ∙ ap (λ u. nat_lt m n || (m == n && u)) h

pub derived_is_lower : (a b : SegKey) → is_lt (ghosts.cmp a b) ≡ is_key_below a b
derived_is_lower a b = then_test a.moment b.moment _ _ (then_test a.conn b.conn _ _ (then_test a.turn b.turn _ _ (last_test (nat_lt a.place b.place) (a.place == b.place))))

-- whatever has a key is in an order by it
pub key_order : {X : Type 0} (key : X → SegKey) → IsStrictWeakOrder (has_lower_key key)
key_order key = subst IsStrictWeakOrder (λ i x y. derived_is_lower (key x) (key y) i) (ranks_by total-law key)

pub below_order : IsStrictWeakOrder below
below_order = key_order (λ x. x.key)

-- what was put in order by a key is in order by it, and what ties stays in its order
pub sorted_by_keys : {X : Type 0} (key : X → SegKey) (xs ys : List X) → IsSortedByKey key ghosts.cmp ys → IsStableByKey key ghosts.cmp xs ys → ys ≡ sorted_by (has_lower_key key) xs
sorted_by_keys key xs ys sorted stable =
    sorted-only (has_lower_key key) (key_order key) xs ys (sorted_ordered (has_lower_key key) (key_order key) ys (subst (λ lt. IsSortedBy lt ys) (λ i x y. derived_is_lower (key x) (key y) i) sorted))
    (subst (λ lt. IsStableBy lt xs ys) (λ i x y. derived_is_lower (key x) (key y) i) stable)

inserted_by_key : (x : Framed) (ys : List Framed) → insert_by below x ys ≡ insert_by_key x ys
inserted_by_key x [] = refl
inserted_by_key x (y ∷ ys) = ap (λ zs. if below y x then y ∷ zs else x ∷ y ∷ ys) (inserted_by_key x ys)

each_in_order : (xs : List Framed) → sorted_by below xs ≡ sorted_by_key xs
unfolding sorted_by_key
each_in_order [] = refl
each_in_order (x ∷ xs) = inserted_by_key x (sorted_by below xs) ∙ ap (insert_by_key x) (each_in_order xs)

pub in_order_by_key : sorted_by below ≡ sorted_by_key
in_order_by_key = λ i xs. each_in_order xs i

pub ordered_is_sorted : (xs : List Framed) → Ordered below xs → sorted_by_key xs ≡ xs
ordered_is_sorted = subst (λ (sorted : List Framed → List Framed). (xs : List Framed) → Ordered below xs → sorted xs ≡ xs) in_order_by_key (ordered_stays below)

pub sorted_append : (xs ys xs' ys' : List Framed) → sorted_by_key xs ≡ sorted_by_key xs' → sorted_by_key ys ≡ sorted_by_key ys' → sorted_by_key (xs ++ ys) ≡ sorted_by_key (xs' ++ ys')
sorted_append = subst (λ (sorted : List Framed → List Framed). (xs ys xs' ys' : List Framed) → sorted xs ≡ sorted xs' → sorted ys ≡ sorted ys' → sorted (xs ++ ys) ≡ sorted (xs' ++ ys')) in_order_by_key (sorted-append below below_order)

-- ---- laws

pub sorted_never_falls : SortedNeverFalls
sorted_never_falls = subst (λ (sorted : List Framed → List Framed). (xs : List Framed) → NeverFalls (sorted xs)) in_order_by_key (ordered-sorted below below_order)

pub sorted_twice : (xs : List Framed) → sorted_by_key (sorted_by_key xs) ≡ sorted_by_key xs
sorted_twice xs = ordered_is_sorted (sorted_by_key xs) (sorted_never_falls xs)

pub sorted_keeps_all : (xs : List Framed) → IsPermutation xs (sorted_by_key xs)
sorted_keeps_all = subst (λ (sorted : List Framed → List Framed). (xs : List Framed) → IsPermutation xs (sorted xs)) in_order_by_key (keeps_all below)

ordered-rising : (x : Framed) (ys : List Framed) → RisesFrom x.key ys → NoneBelow below x ys × Ordered below ys
ordered-rising x [] rise = (tt, tt)
ordered-rising x (y ∷ ys) rise =
    let rest : NoneBelow below y ys × Ordered below ys = ordered-rising y ys rise.1 in
    let higher : below y x ≡ false = below_order.one_way x y rise.0 in
    ((higher, none_below-chain below below_order x y ys higher rest.0), rest)

pub rising_is_sorted : RisingIsSorted
unfolding sorted_by_key
rising_is_sorted [] rise = refl
rising_is_sorted (x ∷ xs) rise = ordered_is_sorted (x ∷ xs) (ordered-rising x xs rise)
