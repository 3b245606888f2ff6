-- What the wire has to do, in units of 1/rate tick, part by part, and chunks that leave as one.
use Rattle.std.proofs.Common.{◌≡◌, ◌≤◌, ◌<◌, ◌⊎◌, inl, inr, ℕ, suc, ◌+◌, ◌-◌, ◌*◌, ◌/◌, min, max, Bool, false, List, [], ◌∷◌, ◌++◌, length, sym, ap, ◌∙◌, arith, append_assoc, take, drop, get_or, set, true, cond, Some, None, unwrap_or, refl}
use Rattle.std.proofs.Math.Nat.{add-mul-div_right, mul-le-mul, mul_comm}
use Rattle.std.proofs.lemmas.Bool.{cases_lt}
use Rattle.std.proofs.lemmas.List.{map-append, append-nil, length-map, length-append, take_more, take_more_set}
use Rattle.std.proofs.lemmas.List.Folds.{length-flat_map-take}
use Rattle.std.proofs.lemmas.List.Elements.{All-tail, All-cons}
use Rattle.pcap_records.specs.Instants.{millisecond, ticks_of}
use Rattle.pcap_records.specs.declared.unit.Unit.{Unit}
use Rattle.pcap_records.specs.declared.unit.Unit.TheVariants.{Micros, Nanos}
use Rattle.reassembly.specs.RecordedLines.{LineByte}
use Rattle.reassembly.specs.LineView.{bytes_with_mark, bytes_without_mark, bytes_of_part, bytes_of_parts}
use Rattle.reassembly.specs.declared.line_parts.LinePart.{LinePart}
use Rattle.toxic_defs.specs.DelayedBytes.{instants_of, at_instant, along}
use Rattle.toxic_defs.specs.Bandwidth.{ceiling, bandwidth_leaves, part_at, charged, joined, settled, going_on, settled_parts}
use Rattle.toxic_defs.specs.Slices.{IsFilled, AreFilled}
use Rattle.toxic_defs.proofs.Latest.{ceiling-mono, owed, owed-append, latest_is_owed}
use Rattle.toxic_defs.proofs.Parts.{length_marked, same_there}
use Rattle.toxic_defs.proofs.MovedParts.{along-append}
use Rattle.toxic_defs.proofs.DelayingLaws.{leaving, joined_is}

ceiling-add : (at m d : ℕ) → 0 < d → ceiling (d * at + m) d ≡ at + ceiling m d
ceiling-add at m d some =
    let e : d * at + m + (d - 1) ≡ m + (d - 1) + at * d = omega arith in
    let q : (m + (d - 1) + at * d) / d ≡ (m + (d - 1)) / d + at = add-mul-div_right (m + (d - 1)) at some in
    rw (e, q) (omega arith)

ceiling-max : (a b d : ℕ) → 0 < d → ceiling (max a b) d ≡ max (ceiling a d) (ceiling b d)
ceiling-max a b d some = by (cases_lt a b)
  where
    by : (a < b) ⊎ (b ≤ a) → ceiling (max a b) d ≡ max (ceiling a d) (ceiling b d)
    by (inl lt) = let e : max a b ≡ b = omega arith in let m = ceiling-mono a b d some (omega arith) in rw e (omega (arith, m))
    by (inr le) = let e : max a b ≡ a = omega arith in let m = ceiling-mono b a d some le in rw e (omega (arith, m))

abbrev pub owed_of : ℕ → ℕ → List LineByte → ℕ
owed_of rate ticks bytes = owed rate ticks 0 (instants_of bytes)

-- bytes leave when what is owed by the last one is done
leaves_owed : (limit ticks rate : ℕ) (bytes : List LineByte) → 0 < rate → 0 < length bytes → bandwidth_leaves limit ticks rate bytes ≡ min (ceiling (owed_of rate ticks bytes) rate) limit
leaves_owed limit ticks rate [] some filled = absurd (omega arith)
leaves_owed limit ticks rate (b ∷ bytes) some filled =
    latest_is_owed limit rate ticks (λ q. ceiling q rate) (λ x y. ceiling-max x y rate some) (λ at m. ceiling-add at m rate some) (length (b ∷ bytes)) b.at (instants_of bytes)
    (ap suc (length-map bytes (λ (x : LineByte). x.at)))

-- bytes that come before the wire is free
owed_run : (rate ticks at busy : ℕ) (bytes : List ℕ) → rate * at ≤ busy → owed rate ticks busy (instants_of (bytes_without_mark at bytes)) ≡ busy + length bytes * ticks
owed_run rate ticks at busy [] le = omega arith
owed_run rate ticks at busy (b ∷ bytes) le = owed_run rate ticks at (max busy (rate * at) + ticks) bytes (omega arith) ∙ omega arith

pub owed_part : (rate ticks at : ℕ) (s : Bool) (front : List LineByte) (bytes : List ℕ) → 0 < length bytes
    → owed_of rate ticks (front ++ bytes_with_mark at s bytes) ≡ max (owed_of rate ticks front) (rate * at) + length bytes * ticks
owed_part rate ticks at s front [] some = absurd (omega arith)
owed_part rate ticks at s front (b ∷ bytes) some =
    ap (owed rate ticks 0) (map-append (λ (x : LineByte). x.at) front (bytes_with_mark at s (b ∷ bytes))) ∙ owed-append rate ticks 0 (instants_of front) (instants_of (bytes_with_mark at s (b ∷ bytes)))
    ∙ owed_run rate ticks at (max (owed_of rate ticks front) (rate * at) + ticks) bytes (omega arith) ∙ omega arith

pub fronts : (parts initial : List LinePart) (i : ℕ) (d : LinePart) → i < length initial → drop i parts ≡ drop i initial
    → length (bytes_of_parts (take i initial)) + length (get_or parts i d).bytes.now ≤ length (bytes_of_parts initial)
fronts parts initial i d lt rest =
    let p : LinePart = get_or initial i d in
    let n = length-flat_map-take bytes_of_part initial i d lt in
    let m : length (bytes_of_part p) ≡ length p.bytes.now = length_marked p.at p.starts p.bytes.now in
    let same : get_or parts i d ≡ p = sym (same_there parts initial i d rest) in
    rw same (omega (arith, n, m))

charged-append : (leaves : List LineByte → ℕ) (before : List LineByte) (xs ys : List LinePart)
    → charged leaves before (xs ++ ys) ≡ charged leaves before xs ++ charged leaves (before ++ bytes_of_parts xs) ys
charged-append leaves before [] ys = ap (λ bs. charged leaves bs ys) (sym (append-nil before))
charged-append leaves before (p ∷ xs) ys =
    let next : List LineByte = before ++ bytes_of_part p in
    ap (λ ps. part_at (leaves next) p ∷ ps)
    (charged-append leaves next xs ys ∙ ap (λ bs. charged leaves next xs ++ charged leaves bs ys) (append_assoc before (bytes_of_part p) (bytes_of_parts xs)))

pub charged_there : (leaves : List LineByte → ℕ) (parts initial : List LinePart) (i at : ℕ) (d : LinePart) → i < length parts → i < length initial → drop i parts ≡ drop i initial
    → take i parts ≡ charged leaves [] (take i initial) → at ≡ leaves (bytes_of_parts (take i initial) ++ bytes_of_part (get_or parts i d))
    → take (i + 1) (set parts i (part_at at (get_or parts i d))) ≡ charged leaves [] (take (i + 1) initial)
charged_there leaves parts initial i at d lt lt' rest done e =
    let p : LinePart = get_or parts i d in
    let q : LinePart = part_at at p in
    let taken : take (i + 1) initial ≡ take i initial ++ p ∷ [] = take_more initial i d lt' ∙ ap (λ (x : LinePart). take i initial ++ x ∷ []) (same_there parts initial i d rest) in
    take_more_set parts i q lt ∙ ap (λ (ps : List LinePart). ps ++ q ∷ []) done ∙ ap (λ t. charged leaves [] (take i initial) ++ part_at t p ∷ []) e
    ∙ sym (charged-append leaves [] (take i initial) (p ∷ [])) ∙ ap (charged leaves []) (sym taken)

-- no instant and no rate is greater
pub own_small : (rate at : ℕ) → rate ≤ 1000000 → at < 18446744073709551616 → rate * at ≤ 1000000 * 18446744073709551616
own_small rate at le lt = let le' : at ≤ 18446744073709551616 = omega arith in mul-le-mul le le'

-- a millisecond has at most a million ticks
pub milliseconds_small : (unit : Unit) (n : ℕ) → millisecond (ticks_of unit) * n ≤ 1000000 * n
milliseconds_small Micros n = omega arith
milliseconds_small Nanos n = omega arith

-- when a part leaves that comes after others, by what was owed before
pub leaves_there : (limit ticks rate at : ℕ) (s : Bool) (front : List LineByte) (bytes : List ℕ) → 0 < rate → 0 < length bytes
    → bandwidth_leaves limit ticks rate (front ++ bytes_with_mark at s bytes) ≡ min (ceiling (max (rate * at) (owed_of rate ticks front) + ticks * length bytes) rate) limit
leaves_there limit ticks rate at s front bytes some filled =
    let n = length_marked at s bytes in
    let m = length-append front (bytes_with_mark at s bytes) in
    let turned = mul_comm (length bytes) ticks in
    let e : max (owed_of rate ticks front) (rate * at) + length bytes * ticks ≡ max (rate * at) (owed_of rate ticks front) + ticks * length bytes = omega (arith, turned) in
    leaves_owed limit ticks rate (front ++ bytes_with_mark at s bytes) some (omega (arith, n, m)) ∙ ap (λ q. min (ceiling q rate) limit) (owed_part rate ticks at s front bytes filled ∙ e)

-- ---- chunks that leave as one: all bytes of a part leave with the last one

settled_part : (leaves : List LineByte → ℕ) (before : List LineByte) (at : ℕ) (x : LineByte) (bytes : List ℕ) (behind : List LineByte)
    → settled (along leaves before (x ∷ bytes_without_mark at bytes) ++ behind)
    ≡ bytes_with_mark (leaving (leaves (before ++ x ∷ bytes_without_mark at bytes)) (settled behind)) x.starts (x.value ∷ bytes) ++ settled behind
settled_part leaves before at x [] behind = ap (λ b. b ∷ settled behind) (joined_is (at_instant (leaves (before ++ x ∷ [])) x) (settled behind))
settled_part leaves before at x (b ∷ bytes) behind =
    let y : LineByte = record { value = b; at = at; starts = false } in
    let rest = settled_part leaves (before ++ x ∷ []) at y bytes behind in
    let same : (before ++ x ∷ []) ++ (y ∷ bytes_without_mark at bytes) ≡ before ++ x ∷ y ∷ bytes_without_mark at bytes = append_assoc before (x ∷ []) (y ∷ bytes_without_mark at bytes) in
    let first : LineByte = at_instant (leaves (before ++ x ∷ [])) x in
    ap (λ bs. joined first bs ∷ bs) (rest ∙ ap (λ bs. bytes_with_mark (leaving (leaves bs) (settled behind)) false (b ∷ bytes) ++ settled behind) same)

-- ---- by parts

leaving_parts : (at : ℕ) (parts : List LinePart) → AreFilled parts → leaving at (bytes_of_parts parts) ≡ unwrap_or (going_on parts) at
leaving_parts at [] filled = refl
leaving_parts at (p ∷ parts) filled = by p.starts p.at p.bytes.now (filled 0 p (omega arith))
  where
    by : (s : Bool) (own : ℕ) (bytes : List ℕ) → 0 < length bytes → leaving at (bytes_with_mark own s bytes ++ bytes_of_parts parts) ≡ unwrap_or (cond s None (Some own)) at
    by s own [] h = absurd (omega arith)
    by true own (b ∷ bytes) h = refl
    by false own (b ∷ bytes) h = refl

charged_filled : (leaves : List LineByte → ℕ) (before : List LineByte) (parts : List LinePart) → AreFilled parts → AreFilled (settled_parts (charged leaves before parts))
charged_filled leaves before [] filled = filled
charged_filled leaves before (p ∷ parts) filled =
    All-cons IsFilled _ _ (filled 0 p (omega arith)) (charged_filled leaves (before ++ bytes_of_part p) parts (All-tail IsFilled p parts filled))

one_more : (leaves : List LineByte → ℕ) (before : List LineByte) (at : ℕ) (s : Bool) (bytes : List ℕ) (rest : List LineByte) (parts : List LinePart) → 0 < length bytes → AreFilled parts
    → settled (along leaves (before ++ bytes_with_mark at s bytes) rest) ≡ bytes_of_parts parts
    → settled (along leaves before (bytes_with_mark at s bytes ++ rest))
    ≡ bytes_with_mark (unwrap_or (going_on parts) (leaves (before ++ bytes_with_mark at s bytes))) s bytes ++ bytes_of_parts parts
one_more leaves before at s [] rest parts some filled e = absurd (omega arith)
one_more leaves before at s (b ∷ bytes) rest parts some filled e =
    let x : LineByte = record { value = b; at = at; starts = s } in
    let part : List LineByte = bytes_with_mark at s (b ∷ bytes) in
    ap settled (along-append leaves before part rest) ∙ settled_part leaves before at x bytes (along leaves (before ++ part) rest)
    ∙ ap (λ bs. bytes_with_mark (leaving (leaves (before ++ part)) bs) s (b ∷ bytes) ++ bs) e
    ∙ ap (λ t. bytes_with_mark t s (b ∷ bytes) ++ bytes_of_parts parts) (leaving_parts (leaves (before ++ part)) parts filled)

pub settles : (leaves : List LineByte → ℕ) (before : List LineByte) (parts : List LinePart) → AreFilled parts
    → settled (along leaves before (bytes_of_parts parts)) ≡ bytes_of_parts (settled_parts (charged leaves before parts))
settles leaves before [] filled = refl
settles leaves before (p ∷ parts) filled =
    let rest : AreFilled parts = All-tail IsFilled p parts filled in
    let next : List LineByte = before ++ bytes_of_part p in
    one_more leaves before p.at p.starts p.bytes.now (bytes_of_parts parts) (settled_parts (charged leaves next parts)) (filled 0 p (omega arith)) (charged_filled leaves next parts rest)
    (settles leaves next parts rest)
