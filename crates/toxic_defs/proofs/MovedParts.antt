-- Bytes at other instants, as parts have them, and one part more under latency and under a slicer.
use Rattle.std.proofs.Common.{◌≡◌, ◌<◌, ℕ, suc, ◌+◌, Bool, true, false, cond, ◌&&◌, nat_lt, List, [], ◌∷◌, ◌++◌, length, take, drop, get_or, set, refl, sym, ap, ◌∙◌, arith, append_assoc, min, max, ◌-◌, ◌*◌}
use Rattle.std.proofs.lemmas.List.{append-nil, take_more_set, length_push}
use Rattle.std.proofs.lemmas.Bool.{lt-ltb}
use Rattle.std.proofs.lemmas.List.Concat.{flat_map-append}
use Rattle.reassembly.specs.RecordedLines.{LineByte}
use Rattle.reassembly.specs.LineView.{bytes_of_part, bytes_of_parts, bytes_with_mark, bytes_without_mark}
use Rattle.reassembly.specs.declared.line_parts.LinePart.{LinePart}
use Rattle.toxic_defs.specs.DelayedBytes.{begins, at_instant, along, moved}
use Rattle.toxic_defs.specs.Slicer.{paced}
use Rattle.toxic_defs.proofs.Parts.{front_there}
use Rattle.toxic_defs.proofs.Latest.{latest-push, owed, owed-append, latest_is_owed}

pub begins-append : (xs ys : List LineByte) → begins (xs ++ ys) ≡ begins xs ++ begins ys
begins-append [] ys = refl
begins-append (x ∷ xs) ys = by x.starts (begins-append xs ys)
  where
    by : (s : Bool) → begins (xs ++ ys) ≡ begins xs ++ begins ys → cond s (x.at ∷ begins (xs ++ ys)) (begins (xs ++ ys)) ≡ cond s (x.at ∷ begins xs) (begins xs) ++ begins ys
    by true e = ap (λ ats. x.at ∷ ats) e
    by false e = e

begins_unmarked : (at : ℕ) (bytes : List ℕ) → begins (bytes_without_mark at bytes) ≡ []
begins_unmarked at [] = refl
begins_unmarked at (b ∷ bytes) = begins_unmarked at bytes

pub along-append : (leaves : List LineByte → ℕ) (before xs ys : List LineByte) → along leaves before (xs ++ ys) ≡ along leaves before xs ++ along leaves (before ++ xs) ys
along-append leaves before [] ys = ap (λ front. along leaves front ys) (sym (append-nil before))
along-append leaves before (x ∷ xs) ys =
    let rest = along-append leaves (before ++ x ∷ []) xs ys in
    let same : (before ++ x ∷ []) ++ xs ≡ before ++ x ∷ xs = append_assoc before (x ∷ []) xs in
    ap (λ bs. at_instant (leaves (before ++ x ∷ [])) x ∷ bs) (rest ∙ ap (λ front. along leaves (before ++ x ∷ []) xs ++ along leaves front ys) same)

-- bytes that begin no chunk leave with the chunks before
along_unmarked : (g : List ℕ → ℕ) (before : List LineByte) (at : ℕ) (bytes : List ℕ)
    → along (λ bs. g (begins bs)) before (bytes_without_mark at bytes) ≡ bytes_without_mark (g (begins before)) bytes
along_unmarked g before at [] = refl
along_unmarked g before at (b ∷ bytes) =
    let x : LineByte = record { value = b; at = at; starts = false } in
    let same : begins (before ++ x ∷ []) ≡ begins before = begins-append before (x ∷ []) ∙ append-nil (begins before) in
    let rest = along_unmarked g (before ++ x ∷ []) at bytes in
    rw (rest, same) refl

-- so a part moves as one
pub along_part : (g : List ℕ → ℕ) (before : List LineByte) (at : ℕ) (s : Bool) (bytes : List ℕ)
    → along (λ bs. g (begins bs)) before (bytes_with_mark at s bytes) ≡ bytes_with_mark (g (begins (before ++ bytes_with_mark at s bytes))) s bytes
along_part g before at s [] = refl
along_part g before at s (b ∷ bytes) =
    let x : LineByte = record { value = b; at = at; starts = s } in
    let all : begins (before ++ bytes_with_mark at s (b ∷ bytes)) ≡ begins (before ++ x ∷ []) =
    ap begins (sym (append_assoc before (x ∷ []) (bytes_without_mark at bytes))) ∙ begins-append (before ++ x ∷ []) (bytes_without_mark at bytes)
    ∙ ap (λ ats. begins (before ++ x ∷ []) ++ ats) (begins_unmarked at bytes) ∙ append-nil (begins (before ++ x ∷ [])) in
    let rest = along_unmarked g (before ++ x ∷ []) at bytes in
    rw (rest, all) refl

-- ---- a pass over parts in place

-- the bytes up to a part, once it is written
pub written_there : (parts initial : List LinePart) (i : ℕ) (d q : LinePart) (leaves : List LineByte → ℕ) → i < length parts → i < length initial → drop i parts ≡ drop i initial
    → bytes_of_parts (take i parts) ≡ moved leaves (bytes_of_parts (take i initial)) → bytes_of_part q ≡ along leaves (bytes_of_parts (take i initial)) (bytes_of_part (get_or parts i d))
    → bytes_of_parts (take (i + 1) (set parts i q)) ≡ moved leaves (bytes_of_parts (take (i + 1) initial))
written_there parts initial i d q leaves lt lt' rest done step =
    let front : List LineByte = bytes_of_parts (take i initial) in
    let p : LinePart = get_or parts i d in
    ap bytes_of_parts (take_more_set parts i q lt) ∙ flat_map-append bytes_of_part (take i parts) (q ∷ [])
    ∙ ap (λ bs. bytes_of_parts (take i parts) ++ bs) (append-nil (bytes_of_part q) ∙ step) ∙ ap (λ bs. bs ++ along leaves front (bytes_of_part p)) done
    ∙ sym (along-append leaves [] front (bytes_of_part p)) ∙ ap (moved leaves) (sym (front_there parts initial i d lt' rest))

-- ---- one part more

begins_part : (at : ℕ) (s : Bool) (bytes : List ℕ) → begins (bytes_with_mark at s bytes) ≡ cond (s && nat_lt 0 (length bytes)) (at ∷ []) []
begins_part at true [] = refl
begins_part at false [] = refl
begins_part at true (b ∷ bytes) = let some : 0 < suc (length bytes) = omega arith in rw (lt-ltb 0 (suc (length bytes)) some, begins_unmarked at bytes) refl
begins_part at false (b ∷ bytes) = begins_unmarked at bytes

pub begins_one_more : (front : List LineByte) (at : ℕ) (s : Bool) (bytes : List ℕ) → (s && nat_lt 0 (length bytes)) ≡ true
    → begins (front ++ bytes_with_mark at s bytes) ≡ begins front ++ at ∷ []
begins_one_more front at s bytes h = begins-append front (bytes_with_mark at s bytes) ∙ ap (λ ats. begins front ++ ats) (begins_part at s bytes ∙ ap (λ t. cond t (at ∷ []) []) h)

pub begins_no_more : (front : List LineByte) (at : ℕ) (s : Bool) (bytes : List ℕ) → (s && nat_lt 0 (length bytes)) ≡ false
    → begins (front ++ bytes_with_mark at s bytes) ≡ begins front
begins_no_more front at s bytes h =
    begins-append front (bytes_with_mark at s bytes) ∙ ap (λ ats. begins front ++ ats) (begins_part at s bytes ∙ ap (λ t. cond t (at ∷ []) []) h) ∙ append-nil (begins front)

-- ---- one slice more

paced_owed : (limit gap : ℕ) (ats : List ℕ) → paced limit gap (length ats) ats ≡ min (owed 1 gap 0 ats) limit
paced_owed limit gap [] = omega arith
paced_owed limit gap (at ∷ ats) = latest_is_owed limit 1 gap (λ x. x) (λ a b. refl) (λ x m. omega arith) (length (at ∷ ats)) at ats refl

pub paced_last : (limit gap : ℕ) (ats : List ℕ) (at : ℕ) → paced limit gap (length (ats ++ at ∷ []) - 1) (ats ++ at ∷ []) ≡ max (min (owed 1 gap 0 ats) limit) (min at limit)
paced_last limit gap ats at =
    let n : length (ats ++ at ∷ []) - 1 ≡ length ats = omega (arith, length_push ats at) in
    let none : length ats - length ats ≡ 0 = omega arith in
    let own : at + 0 * gap ≡ at = omega arith in
    rw n (latest-push (λ j x. min (x + (length ats - j) * gap) limit) ats at ∙ rw (none, own) (ap (λ x. max x (min at limit)) (paced_owed limit gap ats)))

pub paced_next : (limit gap : ℕ) (ats : List ℕ) (at : ℕ) → min (owed 1 gap 0 (ats ++ at ∷ [])) limit ≡ min (max (min (owed 1 gap 0 ats) limit) (min at limit) + gap) limit
paced_next limit gap ats at = ap (λ x. min x limit) (owed-append 1 gap 0 ats (at ∷ [])) ∙ omega arith
