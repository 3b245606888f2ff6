-- If instants never fall, the bytes before an instant are the first ones; and the parts that have them.
use Rattle.std.proofs.Common.{zero, suc, sym, subst, ◌≡◌, ◌≤◌, ◌<◌, ℕ, ◌+◌, Bool, true, false, List, [], ◌∷◌, ◌++◌, length, take, filter, nat_lt, nat_le, refl, ap, arith, ◌-◌, ◌&&◌, drop, get_or, ◌∙◌, take-append-drop}
use Rattle.std.specs.List.{AllByRecursion}
use Rattle.std.proofs.Math.Nat.{le_trans, le_refl}
use Rattle.std.proofs.Math.Seq.{take-append_seam}
use Rattle.std.proofs.lemmas.Bool.{ltb-true, ltb-false, lt-ltb, le-ltb, cond_both}
use Rattle.std.proofs.lemmas.Bool.Decides.{nat_tests}
use Rattle.std.proofs.lemmas.List.Concat.{flat_map-append}
use Rattle.std.proofs.lemmas.List.Elements.{filter_agree, filter-append}
use Rattle.std.proofs.lemmas.List.Sums.{length-filter, count_by-le-length}
use Rattle.std.proofs.lemmas.List.{append-nil}
use Rattle.reassembly.specs.RecordedLines.{LineByte}
use Rattle.reassembly.specs.LineLaws.{GoesOn, IsInChunks, last_instant}
use Rattle.reassembly.specs.LineView.{bytes_of_part, bytes_of_parts, bytes_with_mark}
use Rattle.reassembly.specs.declared.line_parts.LinePart.{LinePart}
use Rattle.toxic_defs.proofs.Parts.{unmarked, front_back, last_found}

abbrev pub bytes_before : ℕ → List LineByte → List LineByte
bytes_before limit bytes = filter (λ b. nat_lt b.at limit) bytes

pub up_to : (at : ℕ) (bytes : List LineByte) → filter (λ b. nat_le b.at at) bytes ≡ bytes_before (at + 1) bytes
up_to at bytes = filter_agree (λ b. nat_le b.at at) (λ b. nat_lt b.at (at + 1)) (λ b. grind (arith, nat_tests)) bytes

none_before : (limit last : ℕ) (bytes : List LineByte) → limit ≤ last → GoesOn last bytes → bytes_before limit bytes ≡ []
none_before limit last [] h g = refl
none_before limit last (b ∷ bytes) h g = let le : limit ≤ b.at = le_trans h g.0 in rw (le-ltb b.at limit le) (none_before limit b.at bytes le g.2)

pub first_stay : (limit last : ℕ) (bytes : List LineByte) → GoesOn last bytes → bytes_before limit bytes ≡ take (length (bytes_before limit bytes)) bytes
first_stay limit last [] g = refl
first_stay limit last (b ∷ bytes) g =
    cond_both (nat_lt b.at limit) (b ∷ bytes_before limit bytes) (bytes_before limit bytes) (λ bs. bs ≡ take (length bs) (b ∷ bytes))
    (λ _. ap (λ bs. b ∷ bs) (first_stay limit b.at bytes g.2)) (λ t. rw (none_before limit b.at bytes (ltb-false b.at limit t) g.2) refl)

-- ---- the first n bytes

taken_goes_on : (n last : ℕ) (bytes : List LineByte) → GoesOn last bytes → GoesOn last (take n bytes)
taken_goes_on zero last bytes g = tt
taken_goes_on (suc n) last [] g = tt
taken_goes_on (suc n) last (b ∷ bytes) g = (g.0, g.1, taken_goes_on n b.at bytes g.2)

pub taken_in_chunks : (n : ℕ) (bytes : List LineByte) → IsInChunks bytes → IsInChunks (take n bytes)
taken_in_chunks zero bytes g = tt
taken_in_chunks (suc n) [] g = tt
taken_in_chunks (suc n) (b ∷ bytes) g = (g.0, taken_goes_on n b.at bytes g.1)

pub chunks_go_on : (bytes : List LineByte) → IsInChunks bytes → GoesOn 0 bytes
chunks_go_on [] g = tt
chunks_go_on (b ∷ bytes) g = (omega arith, (λ h. absurd (cc (g.0, h))), g.1)

pub before_in_chunks : (limit : ℕ) (bytes : List LineByte) → IsInChunks bytes → IsInChunks (bytes_before limit bytes)
before_in_chunks limit bytes g = subst IsInChunks (sym (first_stay limit 0 bytes (chunks_go_on bytes g))) (taken_in_chunks (length (bytes_before limit bytes)) bytes g)

pub before_short : (limit : ℕ) (bytes : List LineByte) → length (bytes_before limit bytes) ≤ length bytes
before_short limit bytes = rw (length-filter (λ (b : LineByte). nat_lt b.at limit) bytes) (count_by-le-length (λ (b : LineByte). nat_lt b.at limit) bytes)

-- ---- the last instant

last_rises : (last : ℕ) (bytes : List LineByte) → GoesOn last bytes → last ≤ last_instant last bytes
last_rises last [] g = le_refl last
last_rises last (b ∷ bytes) g = le_trans g.0 (last_rises b.at bytes g.2)

taken_not_later : (n last : ℕ) (bytes : List LineByte) → GoesOn last bytes → last_instant last (take n bytes) ≤ last_instant last bytes
taken_not_later zero last bytes g = last_rises last bytes g
taken_not_later (suc n) last [] g = le_refl last
taken_not_later (suc n) last (b ∷ bytes) g = taken_not_later n b.at bytes g.2

pub last_not_later : (limit last : ℕ) (bytes : List LineByte) → GoesOn last bytes → last_instant last (bytes_before limit bytes) ≤ last_instant last bytes
last_not_later limit last bytes g = rw (first_stay limit last bytes g) (taken_not_later (length (bytes_before limit bytes)) last bytes g)

pub all_before : (limit : ℕ) (bytes : List LineByte) → AllByRecursion (λ b. b.at < limit) (bytes_before limit bytes)
all_before limit [] = tt
all_before limit (b ∷ bytes) =
    cond_both (nat_lt b.at limit) (b ∷ bytes_before limit bytes) (bytes_before limit bytes) (AllByRecursion (λ c. c.at < limit))
    (λ t. (ltb-true b.at limit t, all_before limit bytes)) (λ _. all_before limit bytes)

pub last_within : (limit last : ℕ) (bytes : List LineByte) → last < limit → AllByRecursion (λ b. b.at < limit) bytes → last_instant last bytes < limit
last_within limit last [] h all = h
last_within limit last (b ∷ bytes) h all = last_within limit b.at bytes all.0 all.1

-- if the last byte is before the limit, all are
all_stay : (limit last : ℕ) (bytes : List LineByte) → GoesOn last bytes → last_instant last bytes < limit → bytes_before limit bytes ≡ bytes
all_stay limit last [] g h = refl
all_stay limit last (b ∷ bytes) g h =
    let le = last_rises b.at bytes g.2 in
    let lt : b.at < limit = omega arith in
    rw (lt-ltb b.at limit lt, all_stay limit b.at bytes g.2 h) refl

-- ---- parts, passed from the end

part_behind : (limit at : ℕ) (starts : Bool) (bytes : List ℕ) → limit ≤ at → bytes_before limit (bytes_with_mark at starts bytes) ≡ []
part_behind limit at starts [] h = refl
part_behind limit at starts (x ∷ bytes) h = rw (le-ltb at limit h, unmarked at bytes) (part_behind limit at false bytes h)

-- a part that is empty, or not before the limit
part_lost : (limit at : ℕ) (starts : Bool) (bytes : List ℕ) → (nat_lt 0 (length bytes) && nat_lt at limit) ≡ false → bytes_before limit (bytes_with_mark at starts bytes) ≡ []
part_lost limit at starts [] h = refl
part_lost limit at starts (x ∷ bytes) h =
    let e = rw (lt-ltb 0 (suc (length bytes)) (omega arith)) at h in
    part_behind limit at starts (x ∷ bytes) (ltb-false at limit e)

pub lost_more : (limit k : ℕ) (parts : List LinePart) (d : LinePart) → 0 < k → k ≤ length parts
    → (nat_lt 0 (length (get_or parts (k - 1) d).bytes.now) && nat_lt (get_or parts (k - 1) d).at limit) ≡ false
    → bytes_before limit (bytes_of_parts (take k parts)) ≡ bytes_before limit (bytes_of_parts (take (k - 1) parts))
lost_more limit k parts d some within t =
    let p : LinePart = get_or parts (k - 1) d in
    let front : List LineByte = bytes_of_parts (take (k - 1) parts) in
    ap (bytes_before limit) (front_back k parts d some within) ∙ filter-append (λ (b : LineByte). nat_lt b.at limit) front (bytes_of_part p)
    ∙ ap (λ bs. bytes_before limit front ++ bs) (part_lost limit p.at p.starts p.bytes.now t) ∙ append-nil (bytes_before limit front)

pub kept_up_to : (limit k : ℕ) (parts : List LinePart) (d : LinePart) → 0 < k → k ≤ length parts → IsInChunks (bytes_of_parts parts)
    → (nat_lt 0 (length (get_or parts (k - 1) d).bytes.now) && nat_lt (get_or parts (k - 1) d).at limit) ≡ true
    → bytes_before limit (bytes_of_parts (take k parts)) ≡ bytes_of_parts (take k parts)
kept_up_to limit k parts d some within g t =
    let front : List LineByte = bytes_of_parts (take k parts) in
    let whole : bytes_of_parts parts ≡ front ++ bytes_of_parts (drop k parts) = ap bytes_of_parts (sym (take-append-drop k parts)) ∙ flat_map-append bytes_of_part (take k parts) (drop k parts) in
    let first : take (length front) (bytes_of_parts parts) ≡ front = ap (take (length front)) whole ∙ take-append_seam front (bytes_of_parts (drop k parts)) in
    let filled : 0 < length (get_or parts (k - 1) d).bytes.now = grind (arith, nat_tests) in
    let early : (get_or parts (k - 1) d).at < limit = grind (arith, nat_tests) in
    all_stay limit 0 front (subst (GoesOn 0) first (taken_goes_on (length front) 0 (bytes_of_parts parts) (chunks_go_on (bytes_of_parts parts) g))) (rw (last_found k parts d some within filled) early)
