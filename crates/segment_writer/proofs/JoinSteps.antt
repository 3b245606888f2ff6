-- Two lists in order, merged from their fronts, are put in order.
use Rattle.std.proofs.Common.{◌≡◌, Bool, true, false, not, List, [], ◌∷◌, ◌++◌, if◌then◌else◌, refl, sym, ap, ◌∙◌, append-nil}
use Rattle.std.specs.Cmp.{IsStrictWeakOrder}
use Rattle.std.specs.List.{AllByRecursion}
use Rattle.std.proofs.lemmas.Bool.{false≢true}
use Rattle.itertools.specs.List.{merge_at, merge_by}
use Rattle.lists.proofs.Lists.{all_append, all_weaker}
use Rattle.segment_writer.specs.OrderedLists.{NoneBelow, Ordered, insert_by, sorted_by}
use Rattle.segment_writer.proofs.Sorting.{insert_first, none_below-chain, ordered_stays, all_sorted}

module _ {X : Type 0} (lt : X → X → Bool) (o : IsStrictWeakOrder lt) where
  -- of two front elements the left one comes first unless the right one is below it
  abbrev pub comes_first : X → X → Bool
  comes_first x y = not (lt y x)

  abbrev IsBelow : X → List X → Type 0
  IsBelow y xs = AllByRecursion (λ z. lt y z ≡ true) xs

  below_all : (y x : X) (xs : List X) → lt y x ≡ true → NoneBelow lt x xs → IsBelow y (x ∷ xs)
  below_all y x xs h none = (h, all_weaker (λ z. lt z x ≡ false) (λ z. lt y z ≡ true) (λ z up. by z (lt y z) refl up) xs none)
    where
      by : (z : X) (b : Bool) → lt y z ≡ b → lt z x ≡ false → lt y z ≡ true
      by z true e up = e
      by z false e up = absurd (false≢true (sym (o.chain y z x e up) ∙ h))

  insert_second : (y z : X) (ys : List X) → lt y z ≡ true → insert_by lt z (y ∷ ys) ≡ y ∷ insert_by lt z ys
  insert_second y z ys h = rw h refl

  lowest_first : (y : X) (zs ws : List X) → IsBelow y zs → NoneBelow lt y ws → sorted_by lt (zs ++ y ∷ ws) ≡ y ∷ sorted_by lt (zs ++ ws)
  lowest_first y [] ws below none = insert_first lt y (sorted_by lt ws) (all_sorted lt (λ w. lt w y ≡ false) ws none)
  lowest_first y (z ∷ zs) ws below none = ap (insert_by lt z) (lowest_first y zs ws below.1 none) ∙ insert_second y z (sorted_by lt (zs ++ ws)) below.0

  left_first : (x y : X) (xs ys : List X) → lt y x ≡ false → NoneBelow lt x xs → NoneBelow lt y ys → sorted_by lt (x ∷ (xs ++ y ∷ ys)) ≡ x ∷ sorted_by lt (xs ++ y ∷ ys)
  left_first x y xs ys h left right =
      insert_first lt x (sorted_by lt (xs ++ y ∷ ys))
      (all_sorted lt (λ w. lt w x ≡ false) (xs ++ y ∷ ys) (all_append (λ w. lt w x ≡ false) xs (y ∷ ys) left (h, none_below-chain lt o x y ys h right)))

  pub merged_sorted : (left right : List X) → Ordered lt left → Ordered lt right → merge_by comes_first left right ≡ sorted_by lt (left ++ right)
  merged_sorted [] right l r = sym (ordered_stays lt right r)
  merged_sorted (x ∷ xs) right l r = at right r (λ zs z. merged_sorted xs zs l.1 z)
    where
      at : (ys : List X) → Ordered lt ys → ((zs : List X) → Ordered lt zs → merge_by comes_first xs zs ≡ sorted_by lt (xs ++ zs))
          → merge_at comes_first x xs (merge_by comes_first xs) ys ≡ sorted_by lt (x ∷ (xs ++ ys))
      at [] r rest = sym (ap (sorted_by lt) (append-nil (x ∷ xs)) ∙ ordered_stays lt (x ∷ xs) l)
      at (y ∷ ys) r rest = by (lt y x) refl (at ys r.1 rest)
        where
          by : (b : Bool) → lt y x ≡ b → merge_at comes_first x xs (merge_by comes_first xs) ys ≡ sorted_by lt (x ∷ (xs ++ ys))
              → (if not b then x ∷ merge_by comes_first xs (y ∷ ys) else y ∷ merge_at comes_first x xs (merge_by comes_first xs) ys) ≡ sorted_by lt (x ∷ (xs ++ y ∷ ys))
          by true h later = ap (λ zs. y ∷ zs) later ∙ sym (lowest_first y (x ∷ xs) ys (below_all y x xs h l.0) r.0)
          by false h later = ap (λ zs. x ∷ zs) (rest (y ∷ ys) r) ∙ sym (left_first x y xs ys h l.0 r.0)
