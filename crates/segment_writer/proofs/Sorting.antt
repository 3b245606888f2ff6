-- Lists in order by a test. Putting a list in order keeps its elements, and what ties keeps its order: no other list is so.
use Rattle.std.proofs.Common.{◌≡◌, suc, arith, slice_index_or, Bool, true, false, cond, not, ◌&&◌, List, [], ◌∷◌, ◌++◌, filter, map, if◌then◌else◌, refl, sym, ap, ap₂, ◌∙◌, subst}
use Rattle.std.specs.List.{AllByRecursion}
use native.Mathlib.Numerals.{add-one}
use Rattle.std.specs.Cmp.{IsStrictWeakOrder}
use Rattle.std.specs.List.Sorted.{ties, IsSortedBy, IsStableBy, IsPermutation}
use Rattle.std.proofs.lemmas.List.Elements.{All-from_recursion, filter-append, recursion_from_All}
use Rattle.std.proofs.lemmas.List.Sorted.{IsPermutation-refl, IsPermutation-sym, IsPermutation-cons, IsPermutation-middle, IsPermutation-trans, All-permutation}
use Rattle.lists.proofs.Lists.{all_filter, all_weaker}
use Rattle.segment_writer.specs.OrderedLists.{NoneBelow, Ordered, insert_by, sorted_by}

pub all_moved : {X : Type 0} (P : X → Type 0) (xs ys : List X) → IsPermutation xs ys → AllByRecursion P xs → AllByRecursion P ys
all_moved P xs ys moved all = recursion_from_All P ys (All-permutation P xs ys moved (All-from_recursion P xs all))

module _ {X : Type 0} (lt : X → X → Bool) where
  pub insert_first : (x : X) (ys : List X) → NoneBelow lt x ys → insert_by lt x ys ≡ x ∷ ys
  insert_first x [] none = refl
  insert_first x (y ∷ ys) none = rw none.0 refl

  -- what is in order stays as it is
  pub ordered_stays : (xs : List X) → Ordered lt xs → sorted_by lt xs ≡ xs
  ordered_stays [] ordered = refl
  ordered_stays (x ∷ xs) ordered = ap (insert_by lt x) (ordered_stays xs ordered.1) ∙ insert_first x xs ordered.0

  -- ---- the elements stay

  inserted : (x : X) (ys : List X) → IsPermutation (x ∷ ys) (insert_by lt x ys)
  inserted x [] = IsPermutation-refl (x ∷ [])
  inserted x (y ∷ ys) = by (lt y x) (inserted x ys)
    where
      by : (b : Bool) → IsPermutation (x ∷ ys) (insert_by lt x ys) → IsPermutation (x ∷ y ∷ ys) (if b then y ∷ insert_by lt x ys else x ∷ y ∷ ys)
      by true h =
          IsPermutation-trans (x ∷ y ∷ ys) (y ∷ x ∷ ys) (y ∷ insert_by lt x ys)
          (IsPermutation-sym (y ∷ x ∷ ys) (x ∷ y ∷ ys) (IsPermutation-middle (y ∷ []) x ys)) (IsPermutation-cons y (x ∷ ys) (insert_by lt x ys) h)
      by false h = IsPermutation-refl (x ∷ y ∷ ys)

  pub keeps_all : (xs : List X) → IsPermutation xs (sorted_by lt xs)
  keeps_all [] = IsPermutation-refl []
  keeps_all (x ∷ xs) =
      IsPermutation-trans (x ∷ xs) (x ∷ sorted_by lt xs) (insert_by lt x (sorted_by lt xs)) (IsPermutation-cons x xs (sorted_by lt xs) (keeps_all xs)) (inserted x (sorted_by lt xs))

  pub all_sorted : (P : X → Type 0) (xs : List X) → AllByRecursion P xs → AllByRecursion P (sorted_by lt xs)
  all_sorted P xs all = all_moved P xs (sorted_by lt xs) (keeps_all xs) all

  module _ (o : IsStrictWeakOrder lt) where
    below_itself : (b : Bool) → (b ≡ true → b ≡ false) → b ≡ false
    below_itself true h = h refl
    below_itself false h = refl

    pub not_below_itself : (x : X) → lt x x ≡ false
    not_below_itself x = below_itself (lt x x) (o.one_way x x)

    -- what is not below y is not below x
    pub none_below-chain : (x y : X) (ys : List X) → lt y x ≡ false → NoneBelow lt y ys → NoneBelow lt x ys
    none_below-chain x y ys h none = all_weaker (λ w. lt w y ≡ false) (λ w. lt w x ≡ false) (λ w up. o.chain w y x up h) ys none

    -- if no neighbours fall, none falls
    pub sorted_ordered : (xs : List X) → IsSortedBy lt xs → Ordered lt xs
    sorted_ordered [] sorted = tt
    sorted_ordered (x ∷ []) sorted = (tt, tt)
    sorted_ordered (x ∷ y ∷ ys) sorted =
        let higher : lt y x ≡ false = sorted 0 x (omega arith) (omega arith) in
        let rest : Ordered lt (y ∷ ys) = sorted_ordered (y ∷ ys) (λ k d low high. rw (add-one k) (subst (λ n. lt (slice_index_or (x ∷ y ∷ ys) n d) (slice_index_or (y ∷ ys) k d) ≡ false) (add-one (suc k)) (sorted (suc k) d (omega arith) (omega arith)))) in
        ((higher, none_below-chain x y ys higher rest.0), rest)

    ordered-insert : (x : X) (ys : List X) → Ordered lt ys → Ordered lt (insert_by lt x ys)
    ordered-insert x [] h = (tt, tt)
    ordered-insert x (y ∷ ys) h = by (lt y x) refl (ordered-insert x ys h.1)
      where
        by : (b : Bool) → lt y x ≡ b → Ordered lt (insert_by lt x ys) → Ordered lt (if b then y ∷ insert_by lt x ys else x ∷ y ∷ ys)
        by true lower later = (all_moved (λ w. lt w y ≡ false) (x ∷ ys) (insert_by lt x ys) (inserted x ys) (o.one_way y x lower, h.0), later)
        by false higher later = ((higher, none_below-chain x y ys higher h.0), h)

    pub ordered-sorted : (xs : List X) → Ordered lt (sorted_by lt xs)
    ordered-sorted [] = tt
    ordered-sorted (x ∷ xs) = ordered-insert x (sorted_by lt xs) (ordered-sorted xs)

    -- ---- what ties stays in its order

    tie_parts : (b c : Bool) → not b && not c ≡ true → (b ≡ false) × (c ≡ false)
    tie_parts false false h = (refl, refl)
    tie_parts false true h = cc
    tie_parts true c h = cc

    -- two that tie with one element are not below each other
    not_below-ties : (z x y : X) → ties lt z x ≡ true → ties lt z y ≡ true → lt y x ≡ false
    not_below-ties z x y a b = o.chain y z x (tie_parts (lt z y) (lt y z) b).1 (tie_parts (lt z x) (lt x z) a).0

    -- of two elements that do not both pass, either may come first
    swapped : (u v : Bool) (x y : X) (zs : List X) → (u ≡ true → v ≡ true → ⊥) → cond v (y ∷ cond u (x ∷ zs) zs) (cond u (x ∷ zs) zs) ≡ cond u (x ∷ cond v (y ∷ zs) zs) (cond v (y ∷ zs) zs)
    swapped true true x y zs h = absurd (h refl refl)
    swapped true false x y zs h = refl
    swapped false v x y zs h = refl

    filter-insert : (z x : X) (ys : List X) → filter (ties lt z) (insert_by lt x ys) ≡ filter (ties lt z) (x ∷ ys)
    filter-insert z x [] = refl
    filter-insert z x (y ∷ ys) = by (lt y x) refl (filter-insert z x ys)
      where
        apart : lt y x ≡ true → ties lt z x ≡ true → ties lt z y ≡ true → ⊥
        apart lower a b = cc (not_below-ties z x y a b)

        by : (b : Bool) → lt y x ≡ b → filter (ties lt z) (insert_by lt x ys) ≡ filter (ties lt z) (x ∷ ys) → filter (ties lt z) (if b then y ∷ insert_by lt x ys else x ∷ y ∷ ys) ≡ filter (ties lt z) (x ∷ y ∷ ys)
        by true lower later = ap (λ l. cond (ties lt z y) (y ∷ l) l) later ∙ swapped (ties lt z x) (ties lt z y) x y (filter (ties lt z) ys) (apart lower)
        by false higher later = refl

    filter-sorted : (z : X) (xs : List X) → filter (ties lt z) (sorted_by lt xs) ≡ filter (ties lt z) xs
    filter-sorted z [] = refl
    filter-sorted z (x ∷ xs) = filter-insert z x (sorted_by lt xs) ∙ ap (λ l. cond (ties lt z x) (x ∷ l) l) (filter-sorted z xs)

    -- ---- no other list is so

    -- what a filter keeps first is not below x
    first_kept : (p : X → Bool) (x : X) (xs : List X) (y : X) (ys : List X) → NoneBelow lt x xs → filter p xs ≡ y ∷ ys → lt y x ≡ false
    first_kept p x xs y ys none kept = (subst (AllByRecursion (λ w. lt w x ≡ false)) kept (all_filter (λ w. lt w x ≡ false) p xs none)).0

    -- a filter by what ties with x keeps an element that ties with x
    keeps_itself : (x y : X) (ys : List X) → lt x y ≡ false → lt y x ≡ false → filter (ties lt x) (y ∷ ys) ≡ y ∷ filter (ties lt x) ys
    keeps_itself x y ys a b = rw (a, b) refl

    tail_kept : (b : Bool) (x y : X) (xs ys : List X) → cond b (x ∷ xs) xs ≡ cond b (y ∷ ys) ys → xs ≡ ys
    tail_kept true x y xs ys h = cc
    tail_kept false x y xs ys h = h

    -- two lists in order that agree on what ties with each element are one
    only_one : (xs ys : List X) → Ordered lt xs → Ordered lt ys → ((x : X) → filter (ties lt x) xs ≡ filter (ties lt x) ys) → xs ≡ ys
    only_one [] [] a b same = refl
    only_one [] (y ∷ ys) a b same = cc (same y ∙ keeps_itself y y ys (not_below_itself y) (not_below_itself y))
    only_one (x ∷ xs) [] a b same = cc (sym (same x) ∙ keeps_itself x x xs (not_below_itself x) (not_below_itself x))
    only_one (x ∷ xs) (y ∷ ys) a b same =
        let x_kept = keeps_itself x x xs (not_below_itself x) (not_below_itself x) in
        let y_kept = keeps_itself y y ys (not_below_itself y) (not_below_itself y) in
        let not_above = first_kept (ties lt y) x (x ∷ xs) y (filter (ties lt y) ys) (not_below_itself x, a.0) (same y ∙ y_kept) in
        let not_below = first_kept (ties lt x) y (y ∷ ys) x (filter (ties lt x) xs) (not_below_itself y, b.0) (sym (same x) ∙ x_kept) in
        let heads : x ≡ y = cc (sym x_kept ∙ same x ∙ keeps_itself x y ys not_below not_above) in
        let tails : xs ≡ ys = only_one xs ys a.1 b.1 (λ z. tail_kept (ties lt z x) x y (filter (ties lt z) xs) (filter (ties lt z) ys)
        (same z ∙ ap (λ w. cond (ties lt z w) (y ∷ filter (ties lt z) ys) (filter (ties lt z) ys)) (sym heads))) in
        cc

    pub sorted-only : (xs ys : List X) → Ordered lt ys → IsStableBy lt xs ys → ys ≡ sorted_by lt xs
    sorted-only xs ys ordered stable = only_one ys (sorted_by lt xs) ordered (ordered-sorted xs) (λ z. stable z ∙ sym (filter-sorted z xs))

    -- lists of which what ties is the same are one list in order
    same_order : (xs ys : List X) → IsStableBy lt xs ys → sorted_by lt ys ≡ sorted_by lt xs
    same_order xs ys same = sorted-only xs (sorted_by lt ys) (ordered-sorted ys) (λ z. filter-sorted z ys ∙ same z)

    same_ties : (xs ys : List X) → sorted_by lt xs ≡ sorted_by lt ys → IsStableBy lt ys xs
    same_ties xs ys same z = sym (filter-sorted z xs) ∙ ap (filter (ties lt z)) same ∙ filter-sorted z ys

    pub sorted-append : (xs ys xs' ys' : List X) → sorted_by lt xs ≡ sorted_by lt xs' → sorted_by lt ys ≡ sorted_by lt ys' → sorted_by lt (xs ++ ys) ≡ sorted_by lt (xs' ++ ys')
    sorted-append xs ys xs' ys' first second = same_order (xs' ++ ys') (xs ++ ys) (λ z.
        filter-append (ties lt z) xs ys ∙ ap₂ (λ (us vs : List X). us ++ vs) (same_ties xs xs' first z) (same_ties ys ys' second z) ∙ sym (filter-append (ties lt z) xs' ys'))

-- ---- what is in order, and what is made of it

module _ {X Y : Type 0} (f : X → Y) (lt : Y → Y → Bool) where
  insert-map : (x : X) (ys : List X) → map f (insert_by (λ a b. lt (f a) (f b)) x ys) ≡ insert_by lt (f x) (map f ys)
  insert-map x [] = refl
  insert-map x (y ∷ ys) = by (lt (f y) (f x)) (insert-map x ys)
    where
      by : (b : Bool) → map f (insert_by (λ a b. lt (f a) (f b)) x ys) ≡ insert_by lt (f x) (map f ys)
          → map f (if b then y ∷ insert_by (λ a b. lt (f a) (f b)) x ys else x ∷ y ∷ ys) ≡ (if b then f y ∷ insert_by lt (f x) (map f ys) else f x ∷ f y ∷ map f ys)
      by true rest = ap (λ zs. f y ∷ zs) rest
      by false rest = refl

  pub sorted-map : (xs : List X) → map f (sorted_by (λ a b. lt (f a) (f b)) xs) ≡ sorted_by lt (map f xs)
  sorted-map [] = refl
  sorted-map (x ∷ xs) = insert-map x (sorted_by (λ a b. lt (f a) (f b)) xs) ∙ ap (insert_by lt (f x)) (sorted-map xs)
