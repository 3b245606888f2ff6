-- Parts that are cut into slices.
use Rattle.std.proofs.Common.{◌≡◌, ◌≤◌, ◌<◌, ℕ, zero, suc, ◌+◌, ◌-◌, ◌==◌, ◌||◌, Bool, true, false, List, [], ◌∷◌, ◌++◌, length, take, drop, refl, arith, sym, ap, ◌∙◌, append_assoc}
use Rattle.std.proofs.lemmas.Bool.{ne_eqb}
use Rattle.std.proofs.lemmas.List.{append-nil}
use Rattle.reassembly.specs.RecordedLines.{LineByte}
use Rattle.reassembly.specs.LineView.{bytes_with_mark, bytes_without_mark}
use Rattle.toxic_defs.specs.Slices.{sliced, GivesSizes, CutOn}
use Rattle.toxic_defs.specs.declared.slices.Sizes.{Sizes}
use Rattle.toxic_defs.proofs.Parts.{unmarked}

-- n bytes of a part that go on with a slice
going_on : (size : ℕ → ℕ) (k at n left : ℕ) (bytes : List ℕ) (behind : List LineByte) → n ≤ left → n ≤ length bytes
    → sliced size k left (bytes_without_mark at bytes ++ behind) ≡ bytes_without_mark at (take n bytes) ++ sliced size k (left - n) (bytes_without_mark at (drop n bytes) ++ behind)
going_on size k at zero left bytes behind le le' = let e : left - 0 ≡ left = omega arith in rw e refl
going_on size k at (suc n) left [] behind le le' = absurd (omega arith)
going_on size k at (suc n) left (b ∷ bytes) behind le le' =
    let some : (left == 0) ≡ false = ne_eqb left 0 (λ e. absurd (omega arith)) in
    let e : left - 1 - n ≡ left - suc n = omega arith in
    let rest = going_on size k at n (left - 1) bytes behind (omega arith) (omega arith) in
    rw (some, rest, e) refl

-- the next slice of a part begins, since a chunk does or the one before is full
pub begins_here : (size : ℕ → ℕ) (k at n left : ℕ) (starts : Bool) (bytes : List ℕ) (behind : List LineByte) → (starts || left == 0) ≡ true → 0 < n → n ≤ size k → n ≤ length bytes
    → sliced size k left (bytes_with_mark at starts bytes ++ behind)
    ≡ bytes_with_mark at true (take n bytes) ++ sliced size (k + 1) (size k - n) (bytes_with_mark at false (drop n bytes) ++ behind)
begins_here size k at zero left starts bytes behind begins some le le' = absurd (omega arith)
begins_here size k at (suc n) left starts [] behind begins some le le' = absurd (omega arith)
begins_here size k at (suc n) left starts (b ∷ bytes) behind begins some le le' =
    let e : size k - 1 - n ≡ size k - suc n = omega arith in
    let rest = going_on size (k + 1) at n (size k - 1) bytes behind (omega arith) (omega arith) in
    rw (begins, rest, e, unmarked at (drop n bytes)) refl

pub goes_on_here : (size : ℕ → ℕ) (k at n left : ℕ) (starts : Bool) (bytes : List ℕ) (behind : List LineByte) → (starts || left == 0) ≡ false → n ≤ left → n ≤ length bytes
    → sliced size k left (bytes_with_mark at starts bytes ++ behind)
    ≡ bytes_with_mark at false (take n bytes) ++ sliced size k (left - n) (bytes_with_mark at false (drop n bytes) ++ behind)
goes_on_here size k at n left true bytes behind going le le' = absurd cc
goes_on_here size k at n left false bytes behind going le le' =
    rw (← unmarked at bytes, ← unmarked at (take n bytes), ← unmarked at (drop n bytes)) (going_on size k at n left bytes behind le le')

pub cut_all : (size : ℕ → ℕ) (k left : ℕ) (before bytes : List LineByte) (sizes : Sizes) (more : ℕ) (now : List LineByte) (at : ℕ) (starts : Bool) (rest : List ℕ)
    → length rest ≡ 0 → CutOn size k left before bytes sizes more now (bytes_with_mark at starts rest) → CutOn size k left before bytes sizes more now []
cut_all size k left before bytes sizes more now at starts [] none h = h
cut_all size k left before bytes sizes more now at starts (b ∷ rest) none h = absurd (omega arith)

pub record Split (rest front back : List ℕ) (n : ℕ) : Type 0 where
  pub front_is : front ≡ take n rest
  pub back_is : back ≡ drop n rest
  pub some : 0 < n
  pub within : n ≤ length rest

written : (now now' ours behind : List LineByte) → now' ≡ now ++ ours → now' ++ behind ≡ now ++ (ours ++ behind)
written now now' ours behind e = ap (λ bs. bs ++ behind) e ∙ append_assoc now ours behind

pub cut_begun : (size : ℕ → ℕ) (k left : ℕ) (before bytes : List LineByte) (sizes sizes' : Sizes) (more full n : ℕ) (now now' : List LineByte) (at : ℕ) (starts : Bool) (rest front back : List ℕ)
    → (starts || more == 0) ≡ true → Split rest front back n → n ≤ full
    → ((number : ℕ) → GivesSizes sizes size number → (full ≡ size number) × GivesSizes sizes' size (number + 1)) → now' ≡ now ++ bytes_with_mark at true front
    → CutOn size k left before bytes sizes more now (bytes_with_mark at starts rest) → CutOn size k left before bytes sizes' (full - n) now' (bytes_with_mark at false back)
cut_begun size k left before bytes sizes sizes' more full n now now' at starts rest front back begins split le next done h =
    let full_is = (next h.number h.gives).0 in
    record {
      number = h.number + 1;
      gives = (next h.number h.gives).1;
      same = λ behind.
          let step = begins_here size h.number at n more starts rest behind begins split.some (rw (← full_is) le) split.within in
          written now now' (bytes_with_mark at true front) (sliced size (h.number + 1) (full - n) (bytes_with_mark at false back ++ behind)) done
          ∙ ap (λ bs. now ++ bs) (rw (split.front_is, split.back_is, full_is) (sym step)) ∙ h.same behind;
    }

pub cut_gone_on : (size : ℕ → ℕ) (k left : ℕ) (before bytes : List LineByte) (sizes : Sizes) (more n : ℕ) (now now' : List LineByte) (at : ℕ) (starts : Bool) (rest front back : List ℕ)
    → (starts || more == 0) ≡ false → Split rest front back n → n ≤ more → now' ≡ now ++ bytes_with_mark at false front
    → CutOn size k left before bytes sizes more now (bytes_with_mark at starts rest) → CutOn size k left before bytes sizes (more - n) now' (bytes_with_mark at false back)
cut_gone_on size k left before bytes sizes more n now now' at starts rest front back going split le done h = record {
  number = h.number;
  gives = h.gives;
  same = λ behind.
      let step = goes_on_here size h.number at n more starts rest behind going le split.within in
      written now now' (bytes_with_mark at false front) (sliced size h.number (more - n) (bytes_with_mark at false back ++ behind)) done
      ∙ ap (λ bs. now ++ bs) (rw (split.front_is, split.back_is) (sym step)) ∙ h.same behind;
}

-- ---- all parts

-- of all bytes, what is cut and what is not yet
pub record LeftOver (size : ℕ → ℕ) (bytes : List LineByte) (sizes : Sizes) (more : ℕ) (now rest : List LineByte) : Type 0 where
  pub number : ℕ
  pub gives : GivesSizes sizes size number
  pub same : now ++ sliced size number more rest ≡ sliced size 0 0 bytes

pub over_more : (size : ℕ → ℕ) (bytes ours : List LineByte) (sizes sizes' : Sizes) (more more' : ℕ) (now now' rest rest' : List LineByte) → rest ≡ ours ++ rest'
    → ((k : ℕ) → GivesSizes sizes size k → CutOn size k more now ours sizes' more' now' []) → LeftOver size bytes sizes more now rest → LeftOver size bytes sizes' more' now' rest'
over_more size bytes ours sizes sizes' more more' now now' rest rest' e cut h =
    let made = cut h.number h.gives in
    record { number = made.number; gives = made.gives; same = made.same rest' ∙ ap (λ bs. now ++ sliced size h.number more bs) (sym e) ∙ h.same }

pub over_all : (size : ℕ → ℕ) (bytes : List LineByte) (sizes : Sizes) (more : ℕ) (now rest : List LineByte) → rest ≡ [] → LeftOver size bytes sizes more now rest → now ≡ sliced size 0 0 bytes
over_all size bytes sizes more now rest e h = sym (append-nil now) ∙ ap (λ bs. now ++ sliced size h.number more bs) (sym e) ∙ h.same
