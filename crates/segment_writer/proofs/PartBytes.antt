-- The bytes of parts: what is left of them from a cursor on.
use Rattle.std.proofs.Common.{◌≡◌, ◌≤◌, ◌<◌, ℕ, zero, suc, ◌+◌, ◌-◌, Bool, true, false, ◌||◌, not, List, [], ◌∷◌, ◌++◌, length, take, drop, refl, sym, ap, ◌∙◌, arith, length-append, length-drop, min, subst}
use Rattle.std.proofs.lemmas.List.{drop-append-le, take-append-le, drop-map, take-map}
use Rattle.reassembly.specs.RecordedLines.{LineByte}
use Rattle.reassembly.specs.LineView.{bytes_without_mark, bytes_with_mark, bytes_of_parts}
use Rattle.reassembly.proofs.LineBytes.{unmarked, length-marked}
use Rattle.reassembly.specs.declared.line_parts.LinePart.{LinePart}
use Rattle.segment_writer.specs.FirstPieces.{chunk_rest, piece_size, values, first_instant}
use Rattle.segment_writer.specs.LineCursors.{left_at, IsInside, IsCursor, has_none, goes_on}
use Rattle.segment_writer.specs.declared.pieces.Cursor.{Cursor}

-- ---- bytes of one part

pub values-unmarked : (at : ℕ) (xs : List ℕ) → values (bytes_without_mark at xs) ≡ xs
values-unmarked at [] = refl
values-unmarked at (x ∷ xs) = ap (λ ys. x ∷ ys) (values-unmarked at xs)

pub values-marked : (at : ℕ) (s : Bool) (xs : List ℕ) → values (bytes_with_mark at s xs) ≡ xs
values-marked at s [] = refl
values-marked at s (x ∷ xs) = ap (λ ys. x ∷ ys) (values-unmarked at xs)

-- the mark of what is left after n bytes
abbrev pub mark : Bool → ℕ → Bool
mark s zero = s
mark s (suc n) = false

pub drop-marked : (n at : ℕ) (s : Bool) (xs : List ℕ) → drop n (bytes_with_mark at s xs) ≡ bytes_with_mark at (mark s n) (drop n xs)
drop-marked zero at s xs = refl
drop-marked (suc n) at s [] = refl
drop-marked (suc n) at s (x ∷ xs) = drop-map (λ y. let b : LineByte = record { value = y; at = at; starts = false } in b) n xs ∙ unmarked at (drop n xs)

pub chunk_rest-unmarked : (at : ℕ) (xs : List ℕ) (rest : List LineByte) → chunk_rest (bytes_without_mark at xs ++ rest) ≡ length xs + chunk_rest rest
chunk_rest-unmarked at [] rest = omega arith
chunk_rest-unmarked at (x ∷ xs) rest = omega (arith, chunk_rest-unmarked at xs rest)

-- ---- a part, and the parts after it

chunk_rest-on : (at : ℕ) (s : Bool) (xs : List ℕ) (rest : List LineByte) → not s || has_none xs ≡ true → chunk_rest (bytes_with_mark at s xs ++ rest) ≡ length xs + chunk_rest rest
chunk_rest-on at s [] rest h = omega arith
chunk_rest-on at false (x ∷ xs) rest h = omega (arith, chunk_rest-unmarked at xs rest)
chunk_rest-on at true (x ∷ xs) rest h = absurd cc

pub chunk_rest-part_on : (parts : List LinePart) (i : ℕ) (p : LinePart) (ps : List LinePart) → drop i parts ≡ p ∷ ps → goes_on p ≡ true → chunk_rest (bytes_of_parts (drop i parts)) ≡ length p.bytes.now + chunk_rest (bytes_of_parts ps)
chunk_rest-part_on parts i p ps e h = rw e (chunk_rest-on p.at p.starts p.bytes.now (bytes_of_parts ps) h)

-- ---- what is left at a cursor in a part

module _ (parts : List LinePart) (c : Cursor) (p : LinePart) (ps : List LinePart) (e : drop c.part parts ≡ p ∷ ps) where
  pub inside_is : IsCursor parts c → c.offset < length p.bytes.now
  inside_is cursor = subst (λ (xs : List LinePart). IsInside xs c.offset) e cursor.inside

  pub left_is : c.offset ≤ length p.bytes.now → left_at parts c ≡ bytes_with_mark p.at (mark p.starts c.offset) (drop c.offset p.bytes.now) ++ bytes_of_parts ps
  left_is h =
      let short : c.offset ≤ length (bytes_with_mark p.at p.starts p.bytes.now) = omega (arith, length-marked p.at p.starts p.bytes.now) in
      rw e (drop-append-le c.offset (bytes_with_mark p.at p.starts p.bytes.now) (bytes_of_parts ps) short
      ∙ ap (λ xs. xs ++ bytes_of_parts ps) (drop-marked c.offset p.at p.starts p.bytes.now))

  pub length-left : c.offset ≤ length p.bytes.now → length (left_at parts c) ≡ length p.bytes.now - c.offset + length (bytes_of_parts ps)
  length-left h =
      ap length (left_is h)
      ∙ length-append (bytes_with_mark p.at (mark p.starts c.offset) (drop c.offset p.bytes.now)) (bytes_of_parts ps)
      ∙ ap (λ n. n + length (bytes_of_parts ps)) (length-marked p.at (mark p.starts c.offset) (drop c.offset p.bytes.now) ∙ length-drop c.offset p.bytes.now)

-- n bytes of a part, before others
pub taken-marked : (n at : ℕ) (s : Bool) (xs : List ℕ) (rest : List LineByte) → n ≤ length xs → values (take n (bytes_with_mark at s xs ++ rest)) ≡ take n xs
taken-marked n at s xs rest h =
    let short : n ≤ length (bytes_with_mark at s xs) = omega (arith, length-marked at s xs) in
    ap values (take-append-le n (bytes_with_mark at s xs) rest short) ∙ sym (take-map (λ (b : LineByte). b.value) n (bytes_with_mark at s xs)) ∙ ap (take n) (values-marked at s xs)

-- the size of the piece that begins with bytes of a part, whose chunk goes on with others
pub piece_size-marked : (limit at : ℕ) (s : Bool) (xs : List ℕ) (rest : List LineByte) → 0 < length xs → piece_size limit (bytes_with_mark at s xs ++ rest) ≡ min limit (length xs + chunk_rest rest)
piece_size-marked limit at s [] rest h = absurd (omega arith)
piece_size-marked limit at s (x ∷ xs) rest h = let e = chunk_rest-unmarked at xs rest in omega arith

pub first_instant-marked : (at : ℕ) (s : Bool) (xs : List ℕ) (rest : List LineByte) → 0 < length xs → first_instant (bytes_with_mark at s xs ++ rest) ≡ at
first_instant-marked at s [] rest h = absurd (omega arith)
first_instant-marked at s (x ∷ xs) rest h = refl
