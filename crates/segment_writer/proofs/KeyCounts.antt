-- How many segments of a list have a key, and what tells keys apart.
use Rattle.std.proofs.Common.{◌≡◌, ◌≤◌, ◌<◌, inl, inr, ℕ, ◌+◌, Bool, true, false, cond, not, List, [], ◌∷◌, ◌++◌, filter, refl, ◌∙◌, arith}
use Rattle.std.specs.List.{All, count_by}
use Rattle.std.specs.List.Sorted.{IsPermutation}
use Rattle.std.proofs.lemmas.Bool.{cases_lt}
use Rattle.std.proofs.lemmas.Bool.Decides.{nat_tests}
use Rattle.std.proofs.lemmas.List.Elements.{All-head, All-tail}
use Rattle.std.proofs.lemmas.List.Sorted.{IsPermutation-filter_both, sum_by-IsPermutation}
use Rattle.std.proofs.lemmas.List.Sums.{count_by-le-length, sum_by-append, sum_by-cons}
use Rattle.segment_writer.specs.WrittenSegments.{sorted_by_key}
use Rattle.segment_writer.specs.KeyLaws.{same_key, HasNoKeyTwice, OnceInAnyOrder}
use Rattle.segment_writer.specs.declared.framed.SegKey.{SegKey}
use Rattle.segment_writer.specs.declared.framed.Framed.{Framed}
use Rattle.segment_writer.proofs.InOrder.{sorted_keeps_all}

-- ---- keys that are the same share their fields

pub same_conn : (a b : SegKey) → same_key a b ≡ true → a.conn ≡ b.conn
same_conn a b h = grind (arith, nat_tests)

pub same_turn : (a b : SegKey) → same_key a b ≡ true → a.turn ≡ b.turn
same_turn a b h = grind (arith, nat_tests)

pub same_place : (a b : SegKey) → same_key a b ≡ true → a.place ≡ b.place
same_place a b h = grind (arith, nat_tests)

-- ---- how many segments of a list have a key

module _ (k : SegKey) where
  abbrev pub has_key : Framed → Bool
  has_key x = same_key k x.key

  abbrev pub key_count : List Framed → ℕ
  key_count xs = count_by has_key xs

  pub key_count-cons : (x : Framed) (xs : List Framed) → key_count (x ∷ xs) ≡ cond (has_key x) 1 0 + key_count xs
  key_count-cons x xs = sum_by-cons (λ y. cond (has_key y) 1 0) x xs

  key_count-permuted : (xs ys : List Framed) → IsPermutation xs ys → key_count ys ≡ key_count xs
  key_count-permuted xs ys moved = sum_by-IsPermutation (λ x. cond (has_key x) 1 0) xs ys moved

  key_count-append : (xs ys : List Framed) → key_count (xs ++ ys) ≡ key_count xs + key_count ys
  key_count-append xs ys = sum_by-append (λ x. cond (has_key x) 1 0) xs ys

  pub key_count-sorted : (xs : List Framed) → key_count (sorted_by_key xs) ≡ key_count xs
  key_count-sorted xs = key_count-permuted xs (sorted_by_key xs) (sorted_keeps_all xs)

  pub key_count-filter : (p : Framed → Bool) (xs : List Framed) → key_count (filter p xs) ≤ key_count xs
  key_count-filter p xs =
      let all = key_count-permuted xs (filter p xs ++ filter (λ x. not (p x)) xs) (IsPermutation-filter_both p (λ x. not (p x)) (λ x. refl) xs) in
      omega (arith, all, key_count-append (filter p xs) (filter (λ x. not (p x)) xs))

  pub none_that : (P : Framed → Type 0) → ((x : Framed) → P x → same_key k x.key ≡ true → ⊥) → (xs : List Framed) → All P xs → key_count xs ≡ 0
  none_that P other [] all = refl
  none_that P other (x ∷ xs) all = key_count-cons x xs ∙ by (same_key k x.key) refl (none_that P other xs (All-tail P x xs all))
    where
      by : (b : Bool) → same_key k x.key ≡ b → key_count xs ≡ 0 → cond b 1 0 + key_count xs ≡ 0
      by true e h = absurd (other x (All-head P x xs all) e)
      by false e h = omega (arith, h)

pub once_in_any_order : OnceInAnyOrder
once_in_any_order xs ys moved once k =
    let few : key_count k xs ≤ 1 = once k in
    omega (arith, key_count-permuted k xs ys moved)

pub one_alone : (x : Framed) → HasNoKeyTwice (x ∷ [])
one_alone x k = count_by-le-length (has_key k) (x ∷ [])

-- ---- lists that a field of the key tells apart

module _ (f : SegKey → ℕ) (shared : (a b : SegKey) → same_key a b ≡ true → f a ≡ f b) where
  pub apart : (n : ℕ) (xs ys : List Framed) → All (λ (x : Framed). f x.key ≡ n) xs → All (λ (y : Framed). n < f y.key) ys → HasNoKeyTwice xs → HasNoKeyTwice ys → HasNoKeyTwice (xs ++ ys)
  apart n xs ys first above a b k =
      let sum = key_count-append k xs ys in
      let a' : key_count k xs ≤ 1 = a k in
      let b' : key_count k ys ≤ 1 = b k in
      elim (cases_lt n (f k)) [
        | inl h ↦ let none : key_count k xs ≡ 0 = none_that k (λ x. f x.key ≡ n) (λ x is e. let same = shared k x.key e in let there : f x.key ≡ n = is in omega arith) xs first in omega arith
        | inr h ↦ let none : key_count k ys ≡ 0 = none_that k (λ y. n < f y.key) (λ y over e. let same = shared k y.key e in let there : n < f y.key = over in omega arith) ys above in omega arith
      ]
