-- The first piece of some bytes.
use Rattle.std.proofs.Common.{◌≡◌, ◌≢◌, ◌<◌, ℕ, suc, ◌+◌, ◌-◌, ◌==◌, min, Bool, true, false, ◌||◌, List, [], ◌∷◌, drop, refl, ap, ◌∙◌, arith}
use Rattle.std.proofs.lemmas.Bool.{eqb-true, eqb-false}
use Rattle.reassembly.specs.RecordedLines.{LineByte}
use Rattle.segment_writer.specs.WrittenSegments.{pieces, pieces_led_by, is_chunk_border}
use Rattle.segment_writer.specs.FirstPieces.{chunk_rest, piece_size, first_of, FirstPiece}

-- a byte that ends its piece
one_byte : (limit room : ℕ) (b : LineByte) (bytes : List LineByte) → is_chunk_border bytes || room == 1 ≡ true
    → pieces limit room (b ∷ bytes) ≡ record { at = b.at; bytes = b.value ∷ []; ends = is_chunk_border bytes } ∷ pieces limit limit bytes
unfolding pieces
one_byte limit room b bytes e = rw e refl

-- and one that does not
more_bytes : (limit room : ℕ) (b : LineByte) (bytes : List LineByte) → is_chunk_border bytes || room == 1 ≡ false
    → pieces limit room (b ∷ bytes) ≡ pieces_led_by b (pieces limit (room - 1) bytes)
unfolding pieces
more_bytes limit room b bytes e = rw e refl

abbrev Cut : ℕ → ℕ → LineByte → List LineByte → Type 0
Cut limit room b bytes = pieces limit room (b ∷ bytes) ≡ first_of room (b ∷ bytes) ∷ pieces limit limit (drop (piece_size room (b ∷ bytes)) (b ∷ bytes))

first_one : (limit room : ℕ) (b : LineByte) (bytes : List LineByte) → is_chunk_border bytes || room == 1 ≡ true → min room (chunk_rest bytes + 1) ≡ 1 → Cut limit room b bytes
first_one limit room b bytes e one = one_byte limit room b bytes e ∙ rw one refl

first_more : (limit room : ℕ) (b d : LineByte) (bytes : List LineByte) → is_chunk_border (d ∷ bytes) || room == 1 ≡ false → Cut limit (room - 1) d bytes
    → min room (chunk_rest (d ∷ bytes) + 1) ≡ suc (piece_size (room - 1) (d ∷ bytes)) → Cut limit room b (d ∷ bytes)
first_more limit room b d bytes e cut more = more_bytes limit room b (d ∷ bytes) e ∙ ap (pieces_led_by b) cut ∙ rw more refl

pub first_piece : FirstPiece
first_piece limit room b [] some = first_one limit room b [] refl (omega arith)
first_piece limit room b (d ∷ bytes) some = by d.starts (room == 1) refl refl (first_piece limit (room - 1) d bytes)
  where
    by : (s r : Bool) → d.starts ≡ s → room == 1 ≡ r → (0 < room - 1 → Cut limit (room - 1) d bytes) → Cut limit room b (d ∷ bytes)
    by true r e test cut = first_one limit room b (d ∷ bytes) (rw e refl) (rw e (omega arith))
    by false true e test cut = let is : room ≡ 1 = eqb-true room 1 test in first_one limit room b (d ∷ bytes) (rw (e, test) refl) (rw e (omega arith))
    by false false e test cut = let other : room ≢ 1 = eqb-false room 1 test in first_more limit room b d bytes (rw (e, test) refl) (cut (omega arith)) (rw e (omega arith))
