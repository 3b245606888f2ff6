-- What is counted by marks is what connections tell.
use Rattle.std.proofs.Common.{◌≡◌, ℕ, zero, suc, ◌+◌, Bool, List, [], ◌∷◌, ◌++◌, length, get_or, map, count_by, Some, refl, sym, ap, ap₂, ◌∙◌, arith, length-append}
use Rattle.std.proofs.Math.Path.{fun_ext}
use Rattle.std.specs.List.{enumerate_from, flat_map, range_with_len, slice_get}
use Rattle.std.proofs.lemmas.List.{length-map}
use Rattle.std.proofs.lemmas.List.Folds.{fold-map}
use Rattle.std.proofs.lemmas.List.FromFn.{length-enumerate_from}
use Rattle.toxic_defs.specs.Toxics.{RatedKind}
use Rattle.toxic_defs.specs.DeliveredLines.{MetProxy}
use Rattle.effects.specs.EffectCounts.{PlacedToxic, Replayed, all_but, draws, has_effect, placed, proxy_counts, toxic_counts, toxics_in, toxics_of}
use Rattle.effects.specs.Marks.{draws_at, has_effect_at, mark_of, marks_of, no_mark, proxy_marks, toxic_marks}
use Rattle.effects.specs.declared.marks.Mark.{Mark}

pub length_all_but : (place : ℕ) (toxics : List RatedKind) → length (all_but place toxics) ≡ length toxics
length_all_but place toxics = length-map (enumerate_from 0 toxics) _ ∙ length-enumerate_from 0 toxics

length_toxics_in : (direction : ℕ) (toxics : List RatedKind) → length (toxics_in direction toxics) ≡ length toxics
length_toxics_in direction toxics = length-map (enumerate_from 0 toxics) (placed direction) ∙ length-enumerate_from 0 toxics

length_toxics_of : (met : MetProxy) → length (toxics_of met) ≡ length met.up + length met.down
length_toxics_of met =
    omega (arith, length-append (toxics_in 0 met.up) (toxics_in 1 met.down), length_toxics_in 0 met.up, length_toxics_in 1 met.down)

-- ---- lists

-- what a value for each place gives is what a value for each element gives
by_places : {X Y : Type 0} (g : ℕ → List Y) (f : X → List Y) (first : ℕ) (xs : List X)
    → ((t : ℕ) (x : X) → slice_get xs t ≡ Some x → g (first + t) ≡ f x) → flat_map g (range_with_len first (length xs)) ≡ flat_map f xs
by_places g f first [] same = refl
by_places g f first (x ∷ xs) same =
    let here : first + 0 ≡ first = omega arith in
    let rest : (t : ℕ) (y : _) → slice_get xs t ≡ Some y → g (first + 1 + t) ≡ f y = λ t y is. let place : first + 1 + t ≡ first + suc t = omega arith in ap g place ∙ same (suc t) y is in
    ap₂ (λ ys zs. ys ++ zs) (ap g (sym here) ∙ same 0 x refl) (by_places g f (first + 1) xs rest)

counted_as : {A M : Type 0} (p : M → Bool) (q : A → Bool) (f : A → M) → ((x : A) → p (f x) ≡ q x) → (xs : List A) → count_by p (map f xs) ≡ count_by q xs
counted_as {A = A} p q f same xs = fold-map _ f 0 xs ∙ ap (λ (h : A → Bool). count_by h xs) (fun_ext same)

mapped_at : {X M : Type 0} (h : X → M) (xs : List X) (t : ℕ) (x : X) (d : M) → slice_get xs t ≡ Some x → get_or (map h xs) t d ≡ h x
mapped_at h [] t x d none = absurd cc
mapped_at h (y ∷ ys) zero x d is = let same : y ≡ x = cc in ap h same
mapped_at h (y ∷ ys) (suc t) x d is = mapped_at h ys t x d is

-- ---- marks

module _ (seed s : ℕ) (met : MetProxy) (conns : List Replayed) where
  toxic_is : (t : ℕ) (x : PlacedToxic) → slice_get (toxics_of met) t ≡ Some x → toxic_marks (map (marks_of seed s met) conns) t ≡ toxic_counts seed s met conns x
  toxic_is t x is =
      let mark : (c : Replayed) → get_or (marks_of seed s met c) t no_mark ≡ mark_of seed s met c x = λ c. mapped_at (mark_of seed s met c) (toxics_of met) t x no_mark is in
      ap₂ (λ m n. m ∷ n ∷ [])
      (counted_as (draws_at t) (λ c. draws seed s c x) (marks_of seed s met) (λ c. ap (λ (m : Mark). m.drawn) (mark c)) conns)
      (counted_as (has_effect_at t) (λ c. has_effect seed s met c x.direction x.place) (marks_of seed s met) (λ c. ap (λ (m : Mark). m.has_effect) (mark c)) conns)

  pub proxy_is : (marks : List (List Mark)) (toxics : ℕ) → marks ≡ map (marks_of seed s met) conns → toxics ≡ length met.up + length met.down
      → proxy_marks marks toxics ≡ proxy_counts seed s met conns
  proxy_is marks toxics is count =
      ap₂ proxy_marks is (count ∙ sym (length_toxics_of met))
      ∙ ap₂ (λ n ns. n ∷ ns) (length-map conns (marks_of seed s met))
      (by_places (toxic_marks (map (marks_of seed s met) conns)) (toxic_counts seed s met conns) 0 (toxics_of met)
      (λ t x at. let first : 0 + t ≡ t = omega arith in ap (toxic_marks (map (marks_of seed s met) conns)) first ∙ toxic_is t x at))
