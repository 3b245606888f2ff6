-- The bytes of parts, and passes over parts in place.
use Rattle.std.proofs.Common.{◌≡◌, ◌≤◌, ◌<◌, ℕ, suc, ◌+◌, ◌-◌, Bool, false, List, [], ◌∷◌, ◌++◌, length, take, drop, get_or, set, refl, sym, ap, ◌∙◌, arith}
use Rattle.std.proofs.Math.Seq.{split_at}
use Rattle.std.proofs.lemmas.List.{append-nil, take_more, drop-set-lt, drop-drop, get_or-drop, length-map}
use Rattle.std.proofs.lemmas.List.Concat.{flat_map-append}
use Rattle.reassembly.specs.RecordedLines.{LineByte}
use Rattle.reassembly.specs.LineLaws.{last_instant}
use Rattle.reassembly.specs.LineView.{bytes_of_part, bytes_of_parts, bytes_with_mark, bytes_without_mark}
use Rattle.reassembly.specs.declared.line_parts.LinePart.{LinePart}

-- ---- one part

-- after the first byte a part's bytes have no mark
pub unmarked : (at : ℕ) (bytes : List ℕ) → bytes_without_mark at bytes ≡ bytes_with_mark at false bytes
unmarked at [] = refl
unmarked at (b ∷ bytes) = refl

pub length_marked : (at : ℕ) (s : Bool) (bytes : List ℕ) → length (bytes_with_mark at s bytes) ≡ length bytes
length_marked at s [] = refl
length_marked at s (b ∷ bytes) = ap suc (length-map bytes (λ x. let r : LineByte = record { value = x; at = at; starts = false } in r))

no_bytes : (at : ℕ) (s : Bool) (bytes : List ℕ) → length bytes ≡ 0 → bytes_with_mark at s bytes ≡ []
no_bytes at s [] h = refl
no_bytes at s (b ∷ bytes) h = absurd (omega arith)

-- ---- the bytes up to a part, its own, and those after it

front_more : (i : ℕ) (parts : List LinePart) (d : LinePart) → i < length parts
    → bytes_of_parts (take (i + 1) parts) ≡ bytes_of_parts (take i parts) ++ bytes_of_part (get_or parts i d)
front_more i parts d lt =
    ap bytes_of_parts (take_more parts i d lt) ∙ flat_map-append bytes_of_part (take i parts) (get_or parts i d ∷ [])
    ∙ ap (λ bs. bytes_of_parts (take i parts) ++ bs) (append-nil (bytes_of_part (get_or parts i d)))

pub parted : (i : ℕ) (parts : List LinePart) (d : LinePart) → i < length parts
    → bytes_of_parts parts ≡ bytes_of_parts (take i parts) ++ (bytes_of_part (get_or parts i d) ++ bytes_of_parts (drop (suc i) parts))
parted i parts d lt = ap bytes_of_parts (split_at parts i d lt) ∙ flat_map-append bytes_of_part (take i parts) (get_or parts i d ∷ drop (suc i) parts)

pub front_back : (n : ℕ) (parts : List LinePart) (d : LinePart) → 0 < n → n ≤ length parts
    → bytes_of_parts (take n parts) ≡ bytes_of_parts (take (n - 1) parts) ++ bytes_of_part (get_or parts (n - 1) d)
front_back n parts d some within = let e : n - 1 + 1 ≡ n = omega arith in rw e at (front_more (n - 1) parts d (omega arith))

-- ---- the last instant

last-append : (before : ℕ) (xs ys : List LineByte) → last_instant before (xs ++ ys) ≡ last_instant (last_instant before xs) ys
last-append before [] ys = refl
last-append before (x ∷ xs) ys = last-append x.at xs ys

last_of_part : (before at : ℕ) (s : Bool) (bytes : List ℕ) → 0 < length bytes → last_instant before (bytes_with_mark at s bytes) ≡ at
last_of_part before at s [] h = absurd (omega arith)
last_of_part before at s (b ∷ []) h = refl
last_of_part before at s (b ∷ c ∷ bytes) h = last_of_part at at false (c ∷ bytes) (omega arith)

pub none_more : (n : ℕ) (parts : List LinePart) (d : LinePart) → 0 < n → n ≤ length parts → length (get_or parts (n - 1) d).bytes.now ≡ 0
    → bytes_of_parts (take n parts) ≡ bytes_of_parts (take (n - 1) parts)
none_more n parts d some within empty =
    let p : LinePart = get_or parts (n - 1) d in
    let front : List LineByte = bytes_of_parts (take (n - 1) parts) in
    front_back n parts d some within ∙ ap (λ bs. front ++ bs) (no_bytes p.at p.starts p.bytes.now empty) ∙ append-nil front

pub last_found : (n : ℕ) (parts : List LinePart) (d : LinePart) → 0 < n → n ≤ length parts → 0 < length (get_or parts (n - 1) d).bytes.now
    → last_instant 0 (bytes_of_parts (take n parts)) ≡ (get_or parts (n - 1) d).at
last_found n parts d some within filled =
    let p : LinePart = get_or parts (n - 1) d in
    let front : List LineByte = bytes_of_parts (take (n - 1) parts) in
    ap (last_instant 0) (front_back n parts d some within) ∙ last-append 0 front (bytes_of_part p) ∙ last_of_part (last_instant 0 front) p.at p.starts p.bytes.now filled

-- ---- a pass over parts in place

pub rest_there : (parts initial : List LinePart) (i : ℕ) (q : LinePart) → drop i parts ≡ drop i initial → drop (i + 1) (set parts i q) ≡ drop (i + 1) initial
rest_there parts initial i q rest = drop-set-lt (i + 1) parts i q (omega arith) ∙ sym (drop-drop 1 i parts) ∙ ap (drop 1) rest ∙ drop-drop 1 i initial

-- a part that is not written yet
pub same_there : (parts initial : List LinePart) (i : ℕ) (d : LinePart) → drop i parts ≡ drop i initial → get_or initial i d ≡ get_or parts i d
same_there parts initial i d rest =
    let e : i + 0 ≡ i = omega arith in
    let there : get_or initial (i + 0) d ≡ get_or parts (i + 0) d = sym (get_or-drop i initial 0 d) ∙ ap (λ (ps : List LinePart). get_or ps 0 d) (sym rest) ∙ get_or-drop i parts 0 d in
    rw e at there

pub front_there : (parts initial : List LinePart) (i : ℕ) (d : LinePart) → i < length initial → drop i parts ≡ drop i initial
    → bytes_of_parts (take (i + 1) initial) ≡ bytes_of_parts (take i initial) ++ bytes_of_part (get_or parts i d)
front_there parts initial i d lt rest = front_more i initial d lt ∙ ap (λ (p : LinePart). bytes_of_parts (take i initial) ++ bytes_of_part p) (same_there parts initial i d rest)
