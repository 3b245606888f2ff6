-- The first bytes of the parts of a line.
use Rattle.std.proofs.Common.{◌≡◌, ◌<◌, ℕ, zero, suc, ◌+◌, Bool, false, List, [], ◌∷◌, ◌++◌, length, take, drop, get_or, set, map, Some, refl, sym, ap, ◌∙◌, arith, length-append}
use Rattle.std.proofs.Math.Seq.{take-append-add}
use Rattle.std.proofs.lemmas.Bool.{lt-ltb}
use Rattle.std.proofs.lemmas.List.{take-append-le, take-map, get_or-append-add, get_or_append_left, append-nil, take_more_set, map-append, length-map}
use Rattle.std.proofs.lemmas.Grind.{flat_map-append}
use Rattle.reassembly.specs.RecordedLines.{LineByte}
use Rattle.reassembly.specs.LineView.{bytes_of_part, bytes_of_parts, bytes_with_mark}
use Rattle.reassembly.specs.declared.line_parts.LinePart.{LinePart}
use Rattle.toxic_defs.specs.LimitData.{next_instant}
use Rattle.toxic_defs.proofs.Parts.{unmarked, length_marked, parted}

take-part : (n at : ℕ) (starts : Bool) (bytes : List ℕ) → take n (bytes_with_mark at starts bytes) ≡ bytes_with_mark at starts (take n bytes)
take-part zero at starts bytes = refl
take-part (suc n) at starts [] = refl
take-part (suc n) at starts (x ∷ bytes) = ap (λ bs. record { value = x; at = at; starts = starts } ∷ bs) (take-map (λ v. let b : LineByte = record { value = v; at = at; starts = false } in b) n bytes)

part_instant : (n at : ℕ) (starts : Bool) (bytes : List ℕ) → n < length bytes → get_or (map (λ b. b.at) (bytes_with_mark at starts bytes)) n 0 ≡ at
part_instant n at starts [] h = absurd (omega arith)
part_instant zero at starts (x ∷ bytes) h = refl
part_instant (suc n) at starts (x ∷ bytes) h = rw (unmarked at bytes) (part_instant n at false bytes (omega arith))

-- ---- the part with the first byte that is lost

abbrev at_of : LineByte → ℕ
at_of b = b.at

-- the parts are as they were, and part i has the first byte that is lost
pub record IsCutAt (most left i : ℕ) (parts written : List LinePart) (p : LinePart) : Type 0 where
  pub same : written ≡ parts
  pub part : p ≡ get_or written i p
  pub lt : i < length parts
  pub sum : left + length (bytes_of_parts (take i parts)) ≡ most
  pub within : left < length p.bytes.now

parts_of : (most left i : ℕ) (parts written : List LinePart) (p : LinePart) → IsCutAt most left i parts written p
    → bytes_of_parts parts ≡ bytes_of_parts (take i parts) ++ (bytes_of_part p ++ bytes_of_parts (drop (suc i) parts))
parts_of most left i parts written p is =
    let there : get_or parts i p ≡ p = sym (is.part ∙ ap (λ ps. get_or ps i p) is.same) in
    parted i parts p is.lt ∙ ap (λ (q : LinePart). bytes_of_parts (take i parts) ++ (bytes_of_part q ++ bytes_of_parts (drop (suc i) parts))) there

pub limited_parts : (most left i : ℕ) (parts written new : List LinePart) (p q : LinePart) → IsCutAt most left i parts written p → new ≡ take (i + 1) (set written i q)
    → bytes_of_part q ≡ bytes_with_mark p.at p.starts (take left p.bytes.now) → bytes_of_parts new ≡ take most (bytes_of_parts parts)
limited_parts most left i parts written new p q is cut first =
    let front : List LineByte = bytes_of_parts (take i parts) in
    let after : List LineByte = bytes_of_parts (drop (suc i) parts) in
    let ours : List LineByte = bytes_of_part p in
    let n : length ours ≡ length p.bytes.now = length_marked p.at p.starts p.bytes.now in
    let sum = is.sum in
    let within = is.within in
    let most_is : most ≡ length front + left = omega arith in
    let made : bytes_of_parts new ≡ front ++ (bytes_of_part q ++ []) =
    ap bytes_of_parts (cut ∙ ap (λ ps. take (i + 1) (set ps i q)) is.same ∙ take_more_set parts i q is.lt) ∙ flat_map-append bytes_of_part (take i parts) (q ∷ []) in
    let whole : take most (bytes_of_parts parts) ≡ front ++ take left ours =
    ap (take most) (parts_of most left i parts written p is) ∙ ap (λ k. take k (front ++ (ours ++ after))) most_is ∙ take-append-add front (ours ++ after) left
    ∙ ap (λ bs. front ++ bs) (take-append-le left ours after (omega arith)) in
    made ∙ ap (λ bs. front ++ bs) (append-nil (bytes_of_part q) ∙ first ∙ sym (take-part left p.at p.starts p.bytes.now)) ∙ sym whole

pub lost_instant : (most left i : ℕ) (parts written : List LinePart) (p : LinePart) → IsCutAt most left i parts written p → Some p.at ≡ next_instant most (bytes_of_parts parts)
lost_instant most left i parts written p is =
    let front : List LineByte = bytes_of_parts (take i parts) in
    let after : List LineByte = bytes_of_parts (drop (suc i) parts) in
    let ours : List LineByte = bytes_of_part p in
    let n : length ours ≡ length p.bytes.now = length_marked p.at p.starts p.bytes.now in
    let sum = is.sum in
    let within = is.within in
    let more : most < length (front ++ (ours ++ after)) = omega (arith, length-append front (ours ++ after), length-append ours after) in
    let most_is : most ≡ length (map at_of front) + left = omega (arith, length-map front at_of) in
    let there : get_or (map at_of (front ++ (ours ++ after))) most 0 ≡ p.at =
    ap (λ ats. get_or ats most 0) (map-append at_of front (ours ++ after)) ∙ ap (λ k. get_or (map at_of front ++ map at_of (ours ++ after)) k 0) most_is
    ∙ get_or-append-add (map at_of front) (map at_of (ours ++ after)) left 0
    ∙ ap (λ ats. get_or ats left 0) (map-append at_of ours after)
    ∙ get_or_append_left (map at_of ours) (map at_of after) 0 left (omega (arith, length-map ours at_of))
    ∙ part_instant left p.at p.starts p.bytes.now within in
    sym (ap (next_instant most) (parts_of most left i parts written p is) ∙ (rw (lt-ltb most (length (front ++ (ours ++ after))) more) (ap (λ (x : ℕ). Some x) there)))
