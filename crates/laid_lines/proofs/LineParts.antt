-- A line that is laid part after part, and its chunks.
use Rattle.std.proofs.Common.{◌≡◌, ◌<◌, ℕ, ◌+◌, Bool, true, false, List, [], ◌∷◌, ◌++◌, length, if◌then◌else◌, refl, ap, ◌∙◌, arith, ◌≤◌, ◌==◌, drop, get_or, sym, append_assoc, length-append}
use Rattle.std.proofs.lemmas.Bool.{lt-ltb}
use Rattle.reassembly.specs.RecordedLines.{LineByte}
use Rattle.reassembly.specs.LineView.{bytes_with_mark, bytes_without_mark, bytes_of_part, bytes_of_parts}
use Rattle.laid_lines.specs.declared.laid.ToxicapChunk.{ToxicapChunk}
use Rattle.laid_lines.specs.FlatLines.{chunk, chunks_after}
use Rattle.laid_lines.specs.RecordedLines.{closed}
use Rattle.std.proofs.lemmas.List.{map-append, drop_all, drop_more, length-map}
use Rattle.reassembly.specs.declared.line_parts.LinePart.{LinePart}
use Rattle.toxic_defs.specs.Laws.{values_of}

-- ---- the chunks of a line, while one of them has begun

-- the chunks that are still to be laid, if one has begun and these bytes are left
unfoldable pub chunks_from : (ℕ → ℕ) → ToxicapChunk → List LineByte → List ToxicapChunk
chunks_from time begun [] = closed true begun
chunks_from time begun (b ∷ bytes) = closed b.starts begun ++ chunks_from time (chunk (begun.end + 1) (time b.at)) bytes

is_closed : (n time : ℕ) → closed true (chunk (n + 1) time) ≡ chunk (n + 1) time ∷ []
is_closed n time = let some : 0 < n + 1 = omega arith in rw lt-ltb refl

module _ (time : ℕ → ℕ) where
  -- the chunk that has begun ends with a byte
  begun_at : (n : ℕ) (b : LineByte) (bytes : List LineByte) → chunks_from time (chunk (n + 1) (time b.at)) bytes ≡ chunks_after time n (b ∷ bytes)
  unfolding chunks_from chunks_after
  begun_at n b [] = is_closed n (time b.at)
  begun_at n b (d ∷ bytes) =
      elim d.starts as (λ s. closed s (chunk (n + 1) (time b.at)) ++ chunks_from time (chunk (n + 1 + 1) (time d.at)) bytes
      ≡ (if s then chunk (n + 1) (time b.at) ∷ chunks_after time (n + 1) (d ∷ bytes) else chunks_after time (n + 1) (d ∷ bytes))) [
        | true ↦ ap (λ cs. cs ++ chunks_from time (chunk (n + 1 + 1) (time d.at)) bytes) (is_closed n (time b.at)) ∙ ap (λ cs. chunk (n + 1) (time b.at) ∷ cs) (begun_at (n + 1) d bytes)
        | false ↦ begun_at (n + 1) d bytes
      ]

  -- no chunk has begun before the first byte
  pub none_begun : (bytes : List LineByte) → chunks_from time (chunk 0 0) bytes ≡ chunks_after time 0 bytes
  unfolding chunks_from chunks_after
  none_begun [] = refl
  none_begun (b ∷ bytes) = elim b.starts as (λ s. closed s (chunk 0 0) ++ chunks_from time (chunk 1 (time b.at)) bytes ≡ chunks_after time 0 (b ∷ bytes)) [ true ↦ begun_at 0 b bytes | false ↦ begun_at 0 b bytes ]

  unmarked : (n at : ℕ) (bytes : List ℕ) (rest : List LineByte)
      → chunks_from time (chunk n (time at)) (bytes_without_mark at bytes ++ rest) ≡ chunks_from time (chunk (n + length bytes) (time at)) rest
  unfolding chunks_from
  unmarked n at [] rest = ap (λ m. chunks_from time (chunk m (time at)) rest) (omega arith)
  unmarked n at (v ∷ bytes) rest = unmarked (n + 1) at bytes rest ∙ ap (λ m. chunks_from time (chunk m (time at)) rest) (omega arith)

  -- a part with bytes goes on with the chunk that has begun, or starts another
  pub part_laid : (begun : ToxicapChunk) (at : ℕ) (starts : Bool) (v : ℕ) (bytes : List ℕ) (rest : List LineByte) → chunks_from time begun (bytes_with_mark at starts (v ∷ bytes) ++ rest)
      ≡ closed starts begun ++ chunks_from time (chunk (begun.end + length (v ∷ bytes)) (time at)) rest
  unfolding chunks_from
  part_laid begun at starts v bytes rest =
      ap (λ cs. closed starts begun ++ cs) (unmarked (begun.end + 1) at bytes rest ∙ ap (λ m. chunks_from time (chunk m (time at)) rest) (omega arith))

-- ---- a line that is laid part after part

unmarked_values : (at : ℕ) (bytes : List ℕ) → values_of (bytes_without_mark at bytes) ≡ bytes
unmarked_values at [] = refl
unmarked_values at (v ∷ bytes) = ap (λ vs. v ∷ vs) (unmarked_values at bytes)

part_values : (part : LinePart) → values_of (bytes_of_part part) ≡ part.bytes.now
part_values part = by part.bytes.now refl
  where
    by : (bytes : List ℕ) → part.bytes.now ≡ bytes → values_of (bytes_with_mark part.at part.starts bytes) ≡ bytes
    by [] is = refl
    by (v ∷ bytes) is = ap (λ vs. v ∷ vs) (unmarked_values part.at bytes)

module _ (parts : List LinePart) (i : ℕ) (part : LinePart) (within : i < length parts) (read : part ≡ get_or parts i part) where
  -- the bytes that are left, of this part first
  here : bytes_of_parts (drop i parts) ≡ bytes_of_part part ++ bytes_of_parts (drop (i + 1) parts)
  here = ap bytes_of_parts (drop_more parts i part within ∙ ap (λ p. p ∷ drop (i + 1) parts) (sym read))

  pub values_left : (now new whole : List ℕ) → now ++ values_of (bytes_of_parts (drop i parts)) ≡ whole → new ≡ now ++ part.bytes.now
      → new ++ values_of (bytes_of_parts (drop (i + 1) parts)) ≡ whole
  values_left now new whole was is =
      let rest = values_of (bytes_of_parts (drop (i + 1) parts)) in
      let own : values_of (bytes_of_parts (drop i parts)) ≡ part.bytes.now ++ rest =
      ap values_of here ∙ map-append (λ b. b.value) (bytes_of_part part) (bytes_of_parts (drop (i + 1) parts)) ∙ ap (λ vs. vs ++ rest) (part_values part) in
      ap (λ xs. xs ++ rest) is ∙ append_assoc now part.bytes.now rest ∙ ap (λ xs. now ++ xs) (sym own) ∙ was

  pub chunks_left : (time : ℕ → ℕ) (begun : ToxicapChunk) (now new whole : List ToxicapChunk) → false ≡ (length part.bytes.now == 0)
      → now ++ chunks_from time begun (bytes_of_parts (drop i parts)) ≡ whole → new ≡ now ++ closed part.starts begun
      → new ++ chunks_from time (chunk (begun.end + length part.bytes.now) (time part.at)) (bytes_of_parts (drop (i + 1) parts)) ≡ whole
  chunks_left time begun now new whole some was is = by part.bytes.now refl some
    where
      by : (bytes : List ℕ) → part.bytes.now ≡ bytes → false ≡ (length bytes == 0)
          → new ++ chunks_from time (chunk (begun.end + length part.bytes.now) (time part.at)) (bytes_of_parts (drop (i + 1) parts)) ≡ whole
      by [] has none = absurd cc
      by (v ∷ bytes) has some =
          let next = chunks_from time (chunk (begun.end + length part.bytes.now) (time part.at)) (bytes_of_parts (drop (i + 1) parts)) in
          let own : chunks_from time begun (bytes_of_parts (drop i parts)) ≡ closed part.starts begun ++ next =
          ap (chunks_from time begun) (here ∙ ap (λ bs. bytes_with_mark part.at part.starts bs ++ bytes_of_parts (drop (i + 1) parts)) has)
          ∙ part_laid time begun part.at part.starts v bytes (bytes_of_parts (drop (i + 1) parts))
          ∙ ap (λ bs. closed part.starts begun ++ chunks_from time (chunk (begun.end + length bs) (time part.at)) (bytes_of_parts (drop (i + 1) parts))) (sym has) in
          ap (λ xs. xs ++ next) is ∙ append_assoc now (closed part.starts begun) next ∙ ap (λ xs. now ++ xs) (sym own) ∙ was

  pub count_left : length (bytes_of_parts (drop i parts)) ≡ length part.bytes.now + length (bytes_of_parts (drop (i + 1) parts))
  count_left =
      let bytes = bytes_of_part part in
      let len : length bytes ≡ length part.bytes.now = sym (length-map bytes (λ b. b.value)) ∙ ap length (part_values part) in
      omega (arith, ap length here, length-append bytes (bytes_of_parts (drop (i + 1) parts)), len)

-- at the end the last chunk is laid
pub chunks_laid : (time : ℕ → ℕ) (parts : List LinePart) (i : ℕ) (begun : ToxicapChunk) (now new first : List ToxicapChunk) (bytes : List LineByte) → length parts ≤ i → bytes_of_parts parts ≡ bytes
    → now ++ chunks_from time begun (bytes_of_parts (drop i parts)) ≡ first ++ chunks_from time (chunk 0 0) (bytes_of_parts parts) → new ≡ now ++ closed true begun
    → new ≡ first ++ chunks_after time 0 bytes
unfolding chunks_from
chunks_laid time parts i begun now new first bytes past whole was is =
    is ∙ ap (λ ps. now ++ chunks_from time begun (bytes_of_parts ps)) (sym (drop_all i parts past)) ∙ was
    ∙ ap (λ cs. first ++ cs) (none_begun time (bytes_of_parts parts) ∙ ap (chunks_after time 0) whole)
