-- The places of only one list, as they stand.
use Rattle.std.proofs.Common.{◌≡◌, ℕ, ◌+◌, ◌<◌, List, [], ◌∷◌, length, map, slice_index_or, refl, sym, ap, ◌∙◌, append-nil, arith}
use Rattle.std.specs.List.{All, flat_map, range_with_len}
use Rattle.std.proofs.lemmas.List.Elements.{All-head}
use Rattle.std.proofs.lemmas.List.FromFn.{get_or-map-range_with_len, length-map-range_with_len}
use Rattle.segment_writer.specs.declared.framed.Framed.{Framed}
use Rattle.segment_writer.specs.WrittenSegments.{sorted_by_key}
use Rattle.time_merge.specs.declared.orders.Order.{Order}
use Rattle.time_merge.specs.declared.orders.Order.TheVariants.{OfOneList}
use Rattle.time_merge.specs.KeyedSegments.{all_keyed_segments, keyed_segments, no_place, place_in_first, place_of, places_in}

pub place_of_one : (order : Order) (n number : ℕ) → order ≡ OfOneList n → number < length (places_in order) → place_in_first number ≡ slice_index_or (places_in order) number no_place
place_of_one order n number is within =
    let listed : places_in order ≡ map place_in_first (range_with_len 0 n) = ap places_in is in
    let below : number < n = omega (arith, within, ap length listed, length-map-range_with_len place_in_first 0 n) in
    sym (ap (λ ps. slice_index_or ps number no_place) listed ∙ get_or-map-range_with_len place_in_first 0 n number number no_place below (omega arith))

keyed_in_first : (index : ℕ) (xs : List Framed) → map place_in_first (range_with_len index (length xs)) ≡ map place_of (keyed_segments 0 index xs)
keyed_in_first index [] = refl
keyed_in_first index (x ∷ xs) = ap (λ ps. place_in_first index ∷ ps) (keyed_in_first (index + 1) xs)

module _ {L : Type 0} (segments : L → List Framed) where
  -- of one list that is in order, these are the places of all segments, and they are in order
  pub record StandInOrder (n : ℕ) (lists : List L) : Type 0 where
    pub places : map place_in_first (range_with_len 0 n) ≡ map place_of (all_keyed_segments segments lists)
    pub sorted : flat_map segments lists ≡ sorted_by_key (flat_map segments lists)

  pub one_in_order : (lists : List L) (l : L) (n : ℕ) → length lists ≡ 1 → l ≡ slice_index_or lists 0 l → n ≡ length (segments l) → All (λ x. sorted_by_key (segments x) ≡ segments x) lists → StandInOrder n lists
  one_in_order [] l n many is count sorted = absurd (omega (arith, many))
  one_in_order (x ∷ []) l n many is count sorted = record {
    places = ap (λ m. map place_in_first (range_with_len 0 m)) (count ∙ ap (λ y. length (segments y)) is) ∙ keyed_in_first 0 (segments x) ∙ ap (map place_of) (sym (append-nil (keyed_segments 0 0 (segments x))));
    sorted = append-nil (segments x) ∙ sym (All-head (λ y. sorted_by_key (segments y) ≡ segments y) x [] sorted) ∙ ap sorted_by_key (sym (append-nil (segments x)));
  }
  one_in_order (x ∷ y ∷ lists) l n many is count sorted = absurd (omega (arith, many))
