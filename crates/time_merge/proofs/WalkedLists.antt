-- The keyed segments of some lists stand for all of their segments.
use Rattle.std.proofs.Common.{◌≡◌, ℕ, ◌<◌, ◌+◌, List, [], ◌∷◌, ◌++◌, length, drop, map, slice_index_or, refl, ap, ap₂, ◌∙◌, arith}
use Rattle.std.specs.List.{All, enumerate_from, flat_map}
use Rattle.std.proofs.lemmas.List.{length-drop, drop_more, get_or-map, map-append}
use Rattle.std.proofs.lemmas.List.Elements.{All-nil, All-cons, All-append}
use Rattle.segment_writer.specs.declared.framed.Framed.{Framed}
use Rattle.segment_writer.specs.SegmentOutlines.{no_segment}
use Rattle.time_merge.specs.KeyedSegments.{keyed_segments, all_keyed_segments, segment_of, IsKeyed, Keyed}

-- the first of what is left of a list
first_left : {X : Type 0} (all : List X) (n : ℕ) (d x : X) (xs : List X) → drop n all ≡ x ∷ xs → (n < length all) × (slice_index_or all n d ≡ x) × (drop (n + 1) all ≡ xs)
first_left all n d x xs e =
    let within : n < length all = omega (arith, length-drop n all, ap length e) in
    let split = drop_more all n d within in
    let first : slice_index_or all n d ≡ x = cc in
    let others : drop (n + 1) all ≡ xs = cc in
    (within, first, others)

module _ {L : Type 0} (segments : L → List Framed) (lists : List L) where
  list_walked : (number : ℕ) → number < length lists → (index : ℕ) (xs : List Framed) → drop index (slice_index_or (map segments lists) number []) ≡ xs
      → All (IsKeyed segments lists) (keyed_segments number index xs) × (map (segment_of segments lists) (keyed_segments number index xs) ≡ xs)
  list_walked number within index [] e = (All-nil (IsKeyed segments lists), refl)
  list_walked number within index (x ∷ xs) e =
      let left = first_left (slice_index_or (map segments lists) number []) index no_segment x xs e in
      let others = list_walked number within (index + 1) xs left.2 in
      let here : Keyed = record { key = x.key; list = number; index = index } in
      let stands : IsKeyed segments lists here = record { stands = record { list = within; index = left.0 }; key = ap (λ (s : Framed). s.key) left.1 } in
      (All-cons (IsKeyed segments lists) here (keyed_segments number (index + 1) xs) stands others.0, ap₂ (λ (y : Framed) (ys : List Framed). y ∷ ys) left.1 others.1)

  lists_walked : (number : ℕ) (rest : List L) → drop number lists ≡ rest
      → let keys : List Keyed = flat_map (λ (list, l). keyed_segments list 0 (segments l)) (enumerate_from number rest) in
      All (IsKeyed segments lists) keys × (map (segment_of segments lists) keys ≡ flat_map segments rest)
  lists_walked number [] e = (All-nil (IsKeyed segments lists), refl)
  lists_walked number (l ∷ rest) e =
      let left = first_left lists number l l rest e in
      let own = list_walked number left.0 0 (segments l) (get_or-map segments lists number l [] left.0 ∙ ap segments left.1) in
      let others = lists_walked (number + 1) rest left.2 in
      let behind : List Keyed = flat_map (λ (list, l). keyed_segments list 0 (segments l)) (enumerate_from (number + 1) rest) in (
        All-append (IsKeyed segments lists) (keyed_segments number 0 (segments l)) behind own.0 others.0,
        map-append (segment_of segments lists) (keyed_segments number 0 (segments l)) behind ∙ ap₂ (λ (ys zs : List Framed). ys ++ zs) own.1 others.1,
      )

  pub all_keyed : All (IsKeyed segments lists) (all_keyed_segments segments lists)
  all_keyed = (lists_walked 0 lists refl).0

  pub all_shown : map (segment_of segments lists) (all_keyed_segments segments lists) ≡ flat_map segments lists
  all_shown = (lists_walked 0 lists refl).1
