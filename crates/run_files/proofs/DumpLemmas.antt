-- A text is a dump of the bytes that hex decodes of it without its blanks.
use Rattle.std.proofs.Common.{◌≡◌, ◌+◌, ◌*◌, Bool, true, false, not, ◌||◌, ℕ, List, [], ◌∷◌, ◌++◌, length, filter, slice_index, Option, Some, None, Result, Ok}
use Rattle.std.proofs.Common.{Err, refl, sym, ap, inl, inr, zero, suc, ◌∙◌, arith, length-append}
use Rattle.std.specs.Prelude.{cond, set, replicate, slice_get, ◌<◌, ◌≢◌, ◌⊎◌, count_by, position, MatchResult}
use Rattle.std.proofs.lemmas.Bool.{and_parts, cases_eq}
use Rattle.std.proofs.lemmas.List.{append-nil}
use Rattle.std.proofs.lemmas.List.Sums.{sum_by-cons, list_all-from_AllPass, AllPass-from_list_all}
use Rattle.std.proofs.lemmas.Iterator.Adapters.{position_from-zero}
use Rattle.lists.proofs.Lists.{slice_get-set_other, slice_get-set_same}
use Rattle.hex.proofs.HexLemmas.{decode_of-digits, decode_of-even, decode_of-ok, decode_pairs-ok}
use Rattle.hex.proofs.Pairs.{decode_pairs-ok_pair, decode_start, prepend, prepend-cons_byte}
use Rattle.run_files.specs.{list_all, position_from, result_unwrap_or, decode_of, decode_pairs, digit_or_error, hex_digit_value, is_hex_digit, pair_value}
use Rattle.run_files.specs.{◌>>=◌, FromHexError, BeginsWith, HoldsPairs, is_blank, is_foreign, dumped_bytes, dump_reading, dump_reading_from, without_blanks}

blank_digit : (b : ℕ) → is_blank b ≡ true → is_hex_digit b ≡ false
blank_digit b h = grind arith

-- ---- over any tests for blanks and digits

module _ (blank digit : ℕ → Bool) where
  abbrev kept : List ℕ → List ℕ
  kept text = filter (λ b. not (blank b)) text

  -- a text whose bytes that are no blanks are digits has no other byte
  none_foreign : (i : ℕ) (text : List ℕ) → list_all digit (kept text) ≡ true → position_from (λ b. not (blank b || digit b)) i text ≡ None
  none_foreign i [] h = refl
  none_foreign i (b ∷ rest) h = by_test (blank b) (none_foreign (i + 1) rest) h
    where
      by_test : (is_blank : Bool) → (list_all digit (kept rest) ≡ true → position_from (λ b. not (blank b || digit b)) (i + 1) rest ≡ None)
          → list_all digit (cond (not is_blank) (b ∷ kept rest) (kept rest)) ≡ true
          → cond (not (is_blank || digit b)) (Some i) (position_from (λ b. not (blank b || digit b)) (i + 1) rest) ≡ None
      by_test true ih h = ih h
      by_test false ih h = let parts = and_parts (digit b) _ h in rw parts.0 (ih parts.1)

  -- and back
  all_digits : (i : ℕ) (text : List ℕ) → position_from (λ b. not (blank b || digit b)) i text ≡ None → list_all digit (kept text) ≡ true
  all_digits i [] h = refl
  all_digits i (b ∷ rest) h = by_tests (blank b) (digit b) refl (all_digits (i + 1) rest) h
    where
      by_tests : (is_blank is_digit : Bool) → digit b ≡ is_digit → (position_from (λ b. not (blank b || digit b)) (i + 1) rest ≡ None → list_all digit (kept rest) ≡ true)
          → cond (not (is_blank || is_digit)) (Some i) (position_from (λ b. not (blank b || digit b)) (i + 1) rest) ≡ None
          → list_all digit (cond (not is_blank) (b ∷ kept rest) (kept rest)) ≡ true
      by_tests true is_digit is ih h = ih h
      by_tests false true is ih h = rw is (ih h)
      by_tests false false is ih h = cc h

  -- its digits are as many as its bytes that are no blanks
  count_kept : ((b : ℕ) → blank b ≡ true → digit b ≡ false) → (text : List ℕ) → list_all digit (kept text) ≡ true
      → count_by digit text ≡ length (kept text)
  count_kept none [] h = refl
  count_kept none (b ∷ rest) h = sum_by-cons (λ b. cond (digit b) 1 0) b rest ∙ by_test (blank b) (none b) (count_kept none rest) h
    where
      by_test : (is_blank : Bool) → (is_blank ≡ true → digit b ≡ false) → (list_all digit (kept rest) ≡ true → count_by digit rest ≡ length (kept rest))
          → list_all digit (cond (not is_blank) (b ∷ kept rest) (kept rest)) ≡ true
          → cond (digit b) 1 0 + count_by digit rest ≡ length (cond (not is_blank) (b ∷ kept rest) (kept rest))
      by_test true no_digit ih h = let e = ih h in rw (no_digit refl) (omega arith)
      by_test false no_digit ih h = let parts = and_parts (digit b) _ h in let e = ih parts.1 in rw parts.0 (omega arith)

-- ---- the table of pairs

none_at : (n i byte : ℕ) → slice_get (replicate n None) i ≡ Some (Some byte) → ⊥
none_at zero i byte at = cc
none_at (suc n) zero byte at = cc
none_at (suc n) (suc i) byte at = none_at n i byte at

pub holds-none : (n : ℕ) → HoldsPairs (replicate n None)
holds-none n high low byte small at = absurd (none_at n (high * 256 + low) byte at)

pub holds-more : (pairs : List (Option ℕ)) (a b at v : ℕ) → at < length pairs → pair_value a b 0 ≡ Ok v → HoldsPairs pairs
    → at ≡ a * 256 + b → b < 256 → HoldsPairs (set pairs at (Some v))
holds-more pairs a b at v within value held place small high low byte low_small found = by (cases_eq (high * 256 + low) at)
  where
    by : ((high * 256 + low) ≡ at) ⊎ ((high * 256 + low) ≢ at) → pair_value high low 0 ≡ Ok byte
    by (inl here) =
        let same_high : high ≡ a = omega arith in
        let same_low : low ≡ b = omega arith in
        let e : Some (Some v) ≡ Some (Some byte) = sym (slice_get-set_same pairs at (Some v) within) ∙ ap (slice_get (set pairs at (Some v))) (sym here) ∙ found in
        let same : v ≡ byte = cc in
        rw (same_high, same_low, ← same) value
    by (inr other) = held high low byte low_small (sym (slice_get-set_other pairs at (high * 256 + low) (Some v) other) ∙ found)

-- ---- what hex decodes, a pair at a time

-- what decoding a pair into room for its byte says of the pair's value
pub byte_told : (value : Result ℕ FromHexError) (answer : Result Unit FromHexError) (out : List ℕ)
    → MatchResult (value >>= (λ byte. Ok (byte ∷ []))) (λ bytes. (answer ≡ Ok tt) × (out ≡ bytes)) (λ e. answer ≡ Err e)
    → MatchResult answer (λ _. Ok (slice_index out 0) ≡ value) (λ e. Err e ≡ value)
byte_told (Ok v) answer out h = rw h.0 (ap (λ (bytes : List ℕ). Ok (slice_index bytes 0)) h.1)
byte_told (Err e) answer out h = rw h refl

-- a pair has the same value wherever it stands
pair_anywhere : (a b i v : ℕ) → pair_value a b 0 ≡ Ok v → pair_value a b i ≡ Ok v
pair_anywhere a b i v h = by (hex_digit_value a) (hex_digit_value b) h
  where
    by : (x y : Option ℕ) → (digit_or_error a 0 x >>= (λ high. digit_or_error b (0 + 1) y >>= (λ low. Ok (high * 16 + low)))) ≡ Ok v
        → (digit_or_error a i x >>= (λ high. digit_or_error b (i + 1) y >>= (λ low. Ok (high * 16 + low)))) ≡ Ok v
    by (Some x) (Some y) h = h
    by (Some x) None h = cc h
    by None y h = cc h

pub decoded_none : (s bytes : List ℕ) → bytes ≡ [] → decode_pairs 0 s ≡ prepend bytes (decode_pairs (2 * length bytes) s)
decoded_none s bytes none = rw none (decode_start s [])

pub decoded_more : (s bytes text left : List ℕ) (v : ℕ) → BeginsWith text v left
    → decode_pairs 0 s ≡ prepend bytes (decode_pairs (2 * length bytes) (without_blanks text))
    → decode_pairs 0 s ≡ prepend (bytes ++ v ∷ []) (decode_pairs (2 * length (bytes ++ v ∷ [])) (without_blanks left))
decoded_more s bytes text left v (a, b, digits, value) inv =
    let i : ℕ = 2 * length bytes in
    let pair = decode_pairs-ok_pair i a b v (without_blanks left) (pair_anywhere a b i v value) in
    let place : i + 2 ≡ 2 * length (bytes ++ v ∷ []) = omega (arith, length-append bytes (v ∷ [])) in
    inv ∙ ap (λ (l : List ℕ). prepend bytes (decode_pairs i l)) digits ∙ ap (prepend bytes) pair ∙ prepend-cons_byte bytes v _
    ∙ ap (λ (k : ℕ). prepend (bytes ++ v ∷ []) (decode_pairs k (without_blanks left))) place

pub decoded_all : (s bytes rest : List ℕ) → rest ≡ [] → decode_pairs 0 s ≡ prepend bytes (decode_pairs (2 * length bytes) rest) → decode_of s ≡ Ok bytes
unfolding decode_pairs
decoded_all s bytes rest none inv =
    let done : decode_pairs 0 s ≡ Ok bytes =
    inv ∙ ap (λ (l : List ℕ). prepend bytes (decode_pairs (2 * length bytes) l)) none ∙ ap Ok (append-nil bytes) in
    let len = (decode_pairs-ok 0 s bytes done).1 in
    decode_of-even s (omega (arith, len)) ∙ done

-- ---- dumps

pub dump_reading-decoded : (text bytes : List ℕ) → decode_of (without_blanks text) ≡ Ok bytes → dump_reading text ≡ Ok bytes
unfolding dump_reading
dump_reading-decoded text bytes decoded =
    let parts = decode_of-ok (without_blanks text) bytes decoded in
    let digits = list_all-from_AllPass is_hex_digit (without_blanks text) parts.1 in
    let none : position is_foreign text ≡ None =
    position_from-zero is_foreign text ∙ none_foreign is_blank is_hex_digit 0 text digits in
    let count : count_by is_hex_digit text ≡ length (without_blanks text) = count_kept is_blank is_hex_digit blank_digit text digits in
    let back : dumped_bytes text ≡ bytes = ap (λ r. result_unwrap_or r []) decoded in
    rw none (rw (count, back) (rw parts.0 refl))

pub dump_reading-bytes : (bytes text : List ℕ) → dump_reading text ≡ Ok bytes → decode_of (without_blanks text) ≡ Ok bytes
unfolding dump_reading
dump_reading-bytes bytes text read = by (position is_foreign text) refl read
  where
    by : (at : Option ℕ) → position is_foreign text ≡ at → dump_reading_from at text ≡ Ok bytes → decode_of (without_blanks text) ≡ Ok bytes
    by (Some at) is h = cc h
    by None is h =
        let digits = all_digits is_blank is_hex_digit 0 text (sym (position_from-zero is_foreign text) ∙ is) in
        let count : count_by is_hex_digit text ≡ length (without_blanks text) = count_kept is_blank is_hex_digit blank_digit text digits in
        let decoded = decode_of-digits (without_blanks text) (grind (arith, count, h)) (AllPass-from_list_all is_hex_digit (without_blanks text) digits) in
        let back : dumped_bytes text ≡ decoded.0 = ap (λ r. result_unwrap_or r []) decoded.1 in
        decoded.1 ∙ grind (arith, back, h)
