-- The bytes of a part, and ends: lemmas for several crates.
use Rattle.std.proofs.Common.{◌≡◌, ◌≤◌, ℕ, suc, Bool, false, List, [], ◌∷◌, length, refl, ap, arith}
use Rattle.std.proofs.lemmas.List.{length-map}
use Rattle.reassembly.specs.RecordedLines.{End, live, fin, close, reset}
use Rattle.reassembly.specs.LineView.{bytes_with_mark, bytes_without_mark}
use Rattle.reassembly.specs.LineLaws.{IsNotBefore}

pub unmarked : (at : ℕ) (bytes : List ℕ) → bytes_without_mark at bytes ≡ bytes_with_mark at false bytes
unmarked at [] = refl
unmarked at (x ∷ bytes) = refl

pub length-marked : (at : ℕ) (starts : Bool) (bytes : List ℕ) → length (bytes_with_mark at starts bytes) ≡ length bytes
length-marked at starts [] = refl
length-marked at starts (x ∷ bytes) = ap suc (length-map bytes _)

pub IsNotBefore-weaker : (least at : ℕ) (end : End) → least ≤ at → IsNotBefore at end → IsNotBefore least end
IsNotBefore-weaker least at live le not_before = tt
IsNotBefore-weaker least at (fin m) le not_before = omega arith
IsNotBefore-weaker least at (close m) le not_before = omega arith
IsNotBefore-weaker least at (reset m) le not_before = omega arith
