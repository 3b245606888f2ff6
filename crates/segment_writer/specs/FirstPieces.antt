-- The first piece of some bytes: as many as its chunk still has, at most the limit.
use Rattle.std.specs.Prelude.{◌≡◌, ◌<◌, ℕ, ◌+◌, min, List, [], ◌∷◌, map, take, drop, if◌then◌else◌}
use Rattle.reassembly.specs.RecordedLines.{LineByte}
use Rattle.segment_writer.specs.WrittenSegments.{Piece, pieces, is_chunk_border}

-- the number of these bytes that go on with the chunk of the byte before them
abbrev pub chunk_rest : List LineByte → ℕ
chunk_rest [] = 0
chunk_rest (b ∷ bytes) = if b.starts then 0 else chunk_rest bytes + 1

abbrev pub piece_size : ℕ → List LineByte → ℕ
piece_size limit [] = 0
piece_size limit (b ∷ bytes) = min limit (chunk_rest bytes + 1)

abbrev pub values : List LineByte → List ℕ
values bytes = map (λ b. b.value) bytes

abbrev pub first_instant : List LineByte → ℕ
first_instant [] = 0
first_instant (b ∷ bytes) = b.at

abbrev pub first_of : ℕ → List LineByte → Piece
first_of limit bytes = record {
  at = first_instant bytes;
  bytes = values (take (piece_size limit bytes) bytes);
  ends = is_chunk_border (drop (piece_size limit bytes) bytes);
}

abbrev pub FirstPiece : Type 0
FirstPiece =
    (limit room : ℕ) (b : LineByte) (bytes : List LineByte) → 0 < room
    → pieces limit room (b ∷ bytes) ≡ first_of room (b ∷ bytes) ∷ pieces limit limit (drop (piece_size room (b ∷ bytes)) (b ∷ bytes))
