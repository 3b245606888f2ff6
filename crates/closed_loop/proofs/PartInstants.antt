-- The instants of a part's bytes are its own.
use Rattle.std.proofs.Common.{◌≡◌, ℕ, List, [], ◌∷◌, length, map, refl, ap}
use Rattle.std.proofs.Math.ListN.{replicate}
use Rattle.reassembly.specs.LineView.{bytes_of_part, bytes_with_mark, bytes_without_mark}
use Rattle.reassembly.specs.RecordedLines.{LineByte}
use Rattle.reassembly.specs.declared.line_parts.LinePart.{LinePart}

unmarked : (at : ℕ) (bytes : List ℕ) → map (λ (b : LineByte). b.at) (bytes_without_mark at bytes) ≡ replicate (length bytes) at
unmarked at [] = refl
unmarked at (b ∷ bytes) = ap (λ (xs : List ℕ). at ∷ xs) (unmarked at bytes)

pub instants_of_part : (p : LinePart) → map (λ (b : LineByte). b.at) (bytes_of_part p) ≡ replicate (length p.bytes.now) p.at
instants_of_part p = by_bytes p.bytes.now
  where
    by_bytes : (bytes : List ℕ) → map (λ (b : LineByte). b.at) (bytes_with_mark p.at p.starts bytes) ≡ replicate (length bytes) p.at
    by_bytes [] = refl
    by_bytes (b ∷ bytes) = ap (λ (xs : List ℕ). p.at ∷ xs) (unmarked p.at bytes)
