-- The order of keyed segments: it is that of keys, and a list in order of key has its keyed segments in order.
use Rattle.std.proofs.Common.{◌≡◌, ℕ, zero, suc, ◌+◌, ◌<◌, ◌≤◌, Bool, false, List, [], ◌∷◌, length, map, slice_index_or, sym, ap₂, ◌∙◌, subst, arith, add-one}
use Rattle.std.specs.Ordering.{as_partial_cmp, partial_lt}
use Rattle.std.specs.Cmp.{IsStrictWeakOrder}
use Rattle.std.specs.List.{All, flat_map}
use Rattle.std.specs.List.Sorted.{IsSortedBy, IsPermutation}
use Rattle.std.proofs.lemmas.List.Elements.{All-head, All-map, All-tail, All-weaker}
use Rattle.std.proofs.lemmas.List.Sorted.{sorted_far, IsPermutation-map, All-permutation}
use Rattle.segment_writer.specs.declared.framed.Framed.{Framed}
use Rattle.segment_writer.specs.WrittenSegments.{has_lower_key, is_key_below, below as segment_below, sorted_by_key}
use Rattle.segment_writer.specs.KeyLaws.{NeverFalls, HasNoKeyTwice}
use Rattle.segment_writer.specs.OrderedLists.{NoneBelow}
use Rattle.segment_writer.proofs.InOrder.{derived_is_lower, key_order}
use Rattle.segment_writer.proofs.OneOrderLaw.{in_one_order}
use Rattle.time_merge.specs.KeyedSegments.{keyed_cmp, keyed_segments, all_keyed_segments, place_of, segment_of, IsKeyed, IsPlace, Keyed}
use Rattle.time_merge.proofs.WalkedLists.{all_keyed, all_shown}

-- ---- comparisons

-- a segment has a lower key
abbrev pub below : Keyed → Keyed → Bool
below = has_lower_key (λ (k : Keyed). k.key)

-- the order by which segments are merged
abbrev pub merging : Keyed → Keyed → Bool
merging = partial_lt (as_partial_cmp keyed_cmp)

pub merging_is_below : merging ≡ below
merging_is_below = λ i a b. derived_is_lower a.key b.key i

pub below_order : IsStrictWeakOrder below
below_order = key_order (λ (k : Keyed). k.key)

pub merging_order : IsStrictWeakOrder merging
merging_order = subst IsStrictWeakOrder (sym merging_is_below) below_order

-- ---- a list in order of key

sorted-cons : {X : Type 0} (lt : X → X → Bool) (x y : X) (ys : List X) → lt y x ≡ false → IsSortedBy lt (y ∷ ys) → IsSortedBy lt (x ∷ y ∷ ys)
sorted-cons lt x y ys h sorted zero d low within = h
sorted-cons lt x y ys h sorted (suc k) d low within =
    rw (add-one (suc k)) (subst (λ n. lt (slice_index_or (y ∷ ys) n d) (slice_index_or (y ∷ ys) k d) ≡ false) (add-one k) (sorted k d (omega arith) (omega arith)))

pub keys_sorted : (list index : ℕ) (xs : List Framed) → NeverFalls xs → IsSortedBy below (keyed_segments list index xs)
keys_sorted list index [] falls k d low within = absurd (omega arith)
keys_sorted list index (x ∷ []) falls k d low within = absurd (omega arith)
keys_sorted list index (x ∷ y ∷ ys) falls k d low within =
    sorted-cons below _ _ (keyed_segments list (index + 1 + 1) ys) falls.0.0 (keys_sorted list (index + 1) (y ∷ ys) falls.1) k d low within

-- ---- keyed segments in order stand for segments that never fall

module _ {L : Type 0} (segments : L → List Framed) (lists : List L) where
  none_below : (k : Keyed) (ks : List Keyed) → IsKeyed segments lists k → All (IsKeyed segments lists) ks
      → ((j : ℕ) (d : Keyed) → j < length ks → below (slice_index_or ks j d) k ≡ false) → NoneBelow segment_below (segment_of segments lists k) (map (segment_of segments lists) ks)
  none_below k [] here all far = tt
  none_below k (l ∷ ks) here all far =
      let there = All-head (IsKeyed segments lists) l ks all in (
        ap₂ is_key_below there.key here.key ∙ far 0 l (omega arith),
        none_below k ks here (All-tail (IsKeyed segments lists) l ks all) (λ j d within. far (suc j) d (omega arith)),
      )

  never_falls : (ks : List Keyed) → All (IsKeyed segments lists) ks → ((i j : ℕ) (d : Keyed) → i ≤ j → j < length ks → below (slice_index_or ks j d) (slice_index_or ks i d) ≡ false)
      → NeverFalls (map (segment_of segments lists) ks)
  never_falls [] all far = tt
  never_falls (k ∷ ks) all far = (
    none_below k ks (All-head (IsKeyed segments lists) k ks all) (All-tail (IsKeyed segments lists) k ks all) (λ j d within. far 0 (suc j) d (omega arith) (omega arith)),
    never_falls ks (All-tail (IsKeyed segments lists) k ks all) (λ i j d le within. far (suc i) (suc j) d (omega arith) (omega arith)),
  )

  pub merged_keyed : (ks : List Keyed) → IsPermutation (all_keyed_segments segments lists) ks → All (IsKeyed segments lists) ks
  merged_keyed ks moved = All-permutation (IsKeyed segments lists) (all_keyed_segments segments lists) ks moved (all_keyed segments lists)

  pub merged_sorted : HasNoKeyTwice (flat_map segments lists) → (ks : List Keyed) → IsPermutation (all_keyed_segments segments lists) ks → IsSortedBy below ks
      → map (segment_of segments lists) ks ≡ sorted_by_key (flat_map segments lists)
  merged_sorted once ks moved sorted =
      in_one_order (flat_map segments lists) (map (segment_of segments lists) ks) once
      (subst (λ (xs : List Framed). IsPermutation xs (map (segment_of segments lists) ks)) (all_shown segments lists) (IsPermutation-map (segment_of segments lists) (all_keyed_segments segments lists) ks moved))
      (never_falls ks (merged_keyed ks moved) (sorted_far below below_order ks sorted))

  pub places_stand : (ks : List Keyed) → All (IsKeyed segments lists) ks → All (IsPlace segments lists) (map place_of ks)
  places_stand ks all =
      All-map (IsPlace segments lists) place_of ks (All-weaker (IsKeyed segments lists) (λ k. IsPlace segments lists (place_of k)) (λ k keyed. keyed.stands) ks all)
