-- Steps of the loops over the parts of a line.
use Rattle.std.proofs.Common.{◌≡◌, ◌≤◌, ◌<◌, ℕ, zero, suc, ◌+◌, ◌-◌, min, Bool, true, false, List, [], ◌∷◌, ◌++◌, length, take, drop, refl, sym, ap, ◌∙◌, subst, arith, length-drop, length-take}
use Rattle.std.proofs.lemmas.List.{drop-drop, map-append, append_assoc, take_all}
use Rattle.std.proofs.Math.Seq.{take-add, drop-append_seam}
use Rattle.reassembly.specs.RecordedLines.{LineByte}
use Rattle.reassembly.specs.LineView.{bytes_with_mark, bytes_of_parts}
use Rattle.reassembly.proofs.LineBytes.{length-marked}
use Rattle.reassembly.specs.declared.line_parts.LinePart.{LinePart}
use Rattle.segment_writer.specs.WrittenSegments.{is_chunk_border}
use Rattle.segment_writer.specs.FirstPieces.{chunk_rest, piece_size, values}
use Rattle.segment_writer.specs.LineCursors.{left_at, IsInside, IsCursor, IsPassed, goes_on}
use Rattle.segment_writer.specs.declared.pieces.Cursor.{Cursor}
use Rattle.segment_writer.proofs.PartBytes.{mark, inside_is, left_is, piece_size-marked, taken-marked, chunk_rest-part_on}

-- ---- how long a piece is

-- the piece at a cursor, whose part has `len` bytes from there on
pub size_begins : (limit : ℕ) (parts : List LinePart) (c : Cursor) (p : LinePart) (ps : List LinePart) (len : ℕ) → drop c.part parts ≡ p ∷ ps → IsCursor parts c → len ≡ length p.bytes.now - c.offset
    → piece_size limit (left_at parts c) ≡ min limit (len + chunk_rest (bytes_of_parts ps))
size_begins limit parts c p ps len e cursor is =
    let inside : c.offset < length p.bytes.now = inside_is parts c p ps e cursor in
    let some : 0 < length (drop c.offset p.bytes.now) = omega (arith, length-drop c.offset p.bytes.now) in
    ap (piece_size limit) (left_is parts c p ps e (omega arith))
    ∙ piece_size-marked limit p.at (mark p.starts c.offset) (drop c.offset p.bytes.now) (bytes_of_parts ps) some
    ∙ ap (λ n. min limit (n + chunk_rest (bytes_of_parts ps))) (length-drop c.offset p.bytes.now ∙ sym is)

-- ---- whether a chunk ends before a cursor

pub border_inside : (parts : List LinePart) (c : Cursor) (p : LinePart) (ps : List LinePart) → drop c.part parts ≡ p ∷ ps → IsCursor parts c → is_chunk_border (left_at parts c) ≡ mark p.starts c.offset
border_inside parts c p ps e cursor =
    let inside : c.offset < length p.bytes.now = inside_is parts c p ps e cursor in
    let some : 0 < length (drop c.offset p.bytes.now) = omega (arith, length-drop c.offset p.bytes.now) in
    ap is_chunk_border (left_is parts c p ps e (omega arith)) ∙ led (drop c.offset p.bytes.now) some
  where
    led : (xs : List ℕ) → 0 < length xs → is_chunk_border (bytes_with_mark p.at (mark p.starts c.offset) xs ++ bytes_of_parts ps) ≡ mark p.starts c.offset
    led [] h = absurd (omega arith)
    led (x ∷ xs) h = refl

pub no_mark : (n : ℕ) (s : Bool) → 0 < n → mark s n ≡ false
no_mark zero s h = absurd (omega arith)
no_mark (suc n) s h = refl

pub not_border : (parts : List LinePart) (c : Cursor) → IsCursor parts c → 0 < c.offset → is_chunk_border (left_at parts c) ≡ false
not_border parts c cursor some = by (drop c.part parts) refl cursor.inside
  where
    by : (xs : List LinePart) → drop c.part parts ≡ xs → IsInside xs c.offset → is_chunk_border (left_at parts c) ≡ false
    by [] e h = absurd (omega arith)
    by (p ∷ ps) e h = border_inside parts c p ps e cursor ∙ no_mark c.offset p.starts some

pub size_goes_on : (limit : ℕ) (parts : List LinePart) (i : ℕ) (p q : LinePart) (ps qs : List LinePart) (size len : ℕ) → drop i parts ≡ p ∷ ps → goes_on p ≡ true → drop i parts ≡ q ∷ qs
    → size ≡ min limit (len + chunk_rest (bytes_of_parts (drop i parts))) → size ≡ min limit (len + length q.bytes.now + chunk_rest (bytes_of_parts qs))
size_goes_on limit parts i p q ps qs size len e on f was =
    let same : p ≡ q = cc in
    let on' : goes_on q ≡ true = ap goes_on (sym same) ∙ on in
    let more = chunk_rest-part_on parts i q qs f on' in
    omega arith

-- ---- the next bytes of a part

-- the slice of some bytes from a cursor on
abbrev pub rest_of : ℕ → List ℕ → List ℕ
rest_of n xs = take (length xs - n) (drop n xs)

rest_is : (n : ℕ) (xs : List ℕ) → rest_of n xs ≡ drop n xs
rest_is n xs = take_all (length xs - n) (drop n xs) (omega (arith, length-drop n xs))

length-rest : (n : ℕ) (xs : List ℕ) → length (rest_of n xs) ≡ length xs - n
length-rest n xs = ap length (rest_is n xs) ∙ length-drop n xs

module _ (parts : List LinePart) (c : Cursor) (p : LinePart) (ps : List LinePart) (e : drop c.part parts ≡ p ∷ ps) (cursor : IsCursor parts c) where
  abbrev ahead : List ℕ
  ahead = drop c.offset p.bytes.now

  inside : c.offset < length p.bytes.now
  inside = inside_is parts c p ps e cursor

  left_here : left_at parts c ≡ bytes_with_mark p.at (mark p.starts c.offset) ahead ++ bytes_of_parts ps
  left_here = left_is parts c p ps e (omega (arith, inside))

  passed_bytes : (n : ℕ) (bytes : List ℕ) → n ≤ length p.bytes.now - c.offset → bytes ≡ take n ahead → (length bytes ≡ n) × (bytes ≡ values (take (length bytes) (left_at parts c)))
  passed_bytes n bytes fits is =
      let count : length bytes ≡ n = ap length is ∙ omega (arith, length-take n ahead, length-drop c.offset p.bytes.now) in (
        count,
        is ∙ sym (taken-marked n p.at (mark p.starts c.offset) ahead (bytes_of_parts ps) (omega (arith, length-drop c.offset p.bytes.now)))
            ∙ ap (λ xs. values (take n xs)) (sym left_here) ∙ ap (λ k. values (take k (left_at parts c))) (sym count),
      )

  pub passed_within : (n : ℕ) → n < length (rest_of c.offset p.bytes.now) → IsPassed parts c (take n (rest_of c.offset p.bytes.now)) (record { part = c.part; offset = c.offset + n })
  passed_within n some =
      let passed = passed_bytes n (take n (rest_of c.offset p.bytes.now)) (omega (arith, length-rest c.offset p.bytes.now)) (ap (take n) (rest_is c.offset p.bytes.now)) in
      record {
        cursor = record {
          within = cursor.within;
          inside = subst (λ (xs : List LinePart). IsInside xs (c.offset + n)) (sym e) (omega (arith, length-rest c.offset p.bytes.now));
        };
        bytes = passed.1;
        left = sym (drop-drop n c.offset (bytes_of_parts (drop c.part parts))) ∙ ap (λ k. drop k (left_at parts c)) (sym passed.0);
      }

  pub passed_over : (next : ℕ) → IsCursor parts (record { part = next; offset = 0 }) → bytes_of_parts (drop next parts) ≡ bytes_of_parts ps
      → IsPassed parts c (rest_of c.offset p.bytes.now) (record { part = next; offset = 0 })
  passed_over next at_next is =
      let own : List LineByte = bytes_with_mark p.at (mark p.starts c.offset) ahead in
      let size : length ahead ≡ length p.bytes.now - c.offset = length-drop c.offset p.bytes.now in
      let whole : rest_of c.offset p.bytes.now ≡ take (length ahead) ahead = rest_is c.offset p.bytes.now ∙ sym (take_all (length ahead) ahead (omega arith)) in
      let passed = passed_bytes (length ahead) (rest_of c.offset p.bytes.now) (omega arith) whole in
      record {
        cursor = at_next;
        bytes = passed.1;
        left = is ∙ sym (ap (drop (length own)) left_here ∙ drop-append_seam own (bytes_of_parts ps)) ∙ ap (λ k. drop k (left_at parts c)) (length-marked p.at (mark p.starts c.offset) ahead ∙ sym passed.0);
      }

  pub first_taken : (n : ℕ) → n ≤ length (rest_of c.offset p.bytes.now) → values (take n (left_at parts c)) ≡ take n (rest_of c.offset p.bytes.now)
  first_taken n within =
      ap (λ xs. values (take n xs)) left_here
      ∙ taken-marked n p.at (mark p.starts c.offset) ahead (bytes_of_parts ps) (omega (arith, length-rest c.offset p.bytes.now, length-drop c.offset p.bytes.now))
      ∙ ap (take n) (sym (rest_is c.offset p.bytes.now))

-- ---- passing over a piece

-- `left` bytes of what follows a cursor are what follows another
pub record Passing (parts : List LinePart) (here : Cursor) (left : ℕ) (behind : List LineByte) : Type 0 where
  pub cursor : IsCursor parts here
  pub within : left ≤ length (left_at parts here)
  pub rest : drop left (left_at parts here) ≡ behind

pub passing_on : (parts : List LinePart) (here after : Cursor) (left : ℕ) (behind : List LineByte) (bytes : List ℕ) → Passing parts here left behind → IsPassed parts here bytes after → length bytes ≤ left
    → Passing parts after (left - length bytes) behind
passing_on parts here after left behind bytes was passed most = record {
  cursor = passed.cursor;
  within = omega (arith, was.within, ap length passed.left, length-drop (length bytes) (left_at parts here));
  rest = ap (drop (left - length bytes)) passed.left ∙ drop-drop (left - length bytes) (length bytes) (left_at parts here)
      ∙ ap (λ n. drop n (left_at parts here)) (let all : length bytes + (left - length bytes) ≡ left = omega arith in all) ∙ was.rest;
}

-- what was copied and what is left to copy are the whole, also after the next bytes
pub copied_on : (parts : List LinePart) (here after : Cursor) (left : ℕ) (bytes out more whole : List ℕ) → IsPassed parts here bytes after → length bytes ≤ left
    → more ≡ out ++ bytes → out ++ values (take left (left_at parts here)) ≡ whole → more ++ values (take (left - length bytes) (left_at parts after)) ≡ whole
copied_on parts here after left bytes out more whole passed most more_is was =
    let n : ℕ = length bytes in
    let next : List LineByte = take n (left_at parts here) in
    let others : List LineByte = take (left - n) (drop n (left_at parts here)) in
    let all : n + (left - n) ≡ left = omega arith in
    let piece : values (take left (left_at parts here)) ≡ bytes ++ values others =
    ap (λ k. values (take k (left_at parts here))) (sym all) ∙ ap values (take-add n (left - n) (left_at parts here))
    ∙ map-append (λ (b : LineByte). b.value) next others ∙ ap (λ xs. xs ++ values others) (sym passed.bytes) in
    (λ i. more_is i ++ values (take (left - n) (passed.left i)))
    ∙ append_assoc out bytes (values others) ∙ ap (λ xs. out ++ xs) (sym piece) ∙ was
