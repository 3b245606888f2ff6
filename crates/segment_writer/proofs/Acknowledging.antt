-- How much of a line was before an instant.
use Rattle.std.proofs.Common.{◌≡◌, ◌≤◌, ◌<◌, ℕ, ◌+◌, Bool, true, false, ◌||◌, nat_lt, List, [], ◌∷◌, ◌++◌, length, filter, take, drop, refl, sym, ap, ◌∙◌, subst, arith, length-append}
use Rattle.std.specs.List.{AllByRecursion}
use Rattle.std.proofs.lemmas.Bool.{lt-ltb, le-ltb, ltb-true, ltb-false}
use Rattle.std.proofs.lemmas.Grind.{flat_map-append}
use Rattle.std.proofs.lemmas.List.{take-append-drop, take_all, append-nil}
use Rattle.std.proofs.lemmas.List.Elements.{filter-append}
use Rattle.std.proofs.Math.Seq.{take-add}
use Rattle.lists.proofs.Lists.{all_append, all_weaker}
use Rattle.reassembly.specs.RecordedLines.{LineByte, End, live}
use Rattle.reassembly.specs.LineView.{bytes_without_mark, bytes_with_mark, bytes_of_part, bytes_of_parts}
use Rattle.reassembly.proofs.LineBytes.{length-marked}
use Rattle.reassembly.specs.declared.line_parts.LinePart.{LinePart}
use Rattle.segment_writer.specs.TimelyLines.{Climbs}
use Rattle.segment_writer.specs.LineCursors.{has_none, bytes_before, IsAcknowledged}
use Rattle.segment_writer.specs.declared.turns.Acknowledged.{Acknowledged}

-- ---- lists of bytes

all_kept : (at : ℕ) (xs : List LineByte) → AllByRecursion (λ b. b.at < at) xs → filter (λ (b : LineByte). nat_lt b.at at) xs ≡ xs
all_kept at [] all = refl
all_kept at (x ∷ xs) all = rw (lt-ltb x.at at all.0) (ap (λ ys. x ∷ ys) (all_kept at xs all.1))

none_kept : (at low : ℕ) (xs : List LineByte) (end : End) → at ≤ low → Climbs low xs end → filter (λ (b : LineByte). nat_lt b.at at) xs ≡ []
none_kept at low [] end h climbs = refl
none_kept at low (x ∷ xs) end h climbs =
    let up : low ≤ x.at = climbs.0 in
    let late : at ≤ x.at = omega arith in
    rw (le-ltb x.at at late) (none_kept at x.at xs end late climbs.1)

pub climbs_behind : (last : ℕ) (xs ys : List LineByte) (end : End) → Climbs last (xs ++ ys) end → (low : ℕ) × (last ≤ low) × Climbs low ys end
climbs_behind last [] ys end climbs = (last, omega arith, climbs)
climbs_behind last (x ∷ xs) ys end climbs = let up : last ≤ x.at = climbs.0 in let more = climbs_behind x.at xs ys end climbs.1 in (more.0, (let up' : x.at ≤ more.0 = more.1 in omega arith), more.2)

-- ---- parts

bytes_split : (k : ℕ) (parts : List LinePart) → bytes_of_parts parts ≡ bytes_of_parts (take k parts) ++ bytes_of_parts (drop k parts)
bytes_split k parts = ap bytes_of_parts (sym (take-append-drop k parts)) ∙ flat_map-append bytes_of_part (take k parts) (drop k parts)

-- one part more
bytes_more : (k : ℕ) (parts : List LinePart) (p : LinePart) (ps : List LinePart) → drop k parts ≡ p ∷ ps → bytes_of_parts (take (k + 1) parts) ≡ bytes_of_parts (take k parts) ++ bytes_of_part p
bytes_more k parts p ps e =
    ap bytes_of_parts (take-add k 1 parts) ∙ flat_map-append bytes_of_part (take k parts) (take 1 (drop k parts))
    ∙ ap (λ (xs : List LinePart). bytes_of_parts (take k parts) ++ bytes_of_parts (take 1 xs)) e ∙ ap (λ ys. bytes_of_parts (take k parts) ++ ys) (append-nil (bytes_of_part p))

unmarked_before : (at m : ℕ) (xs : List ℕ) → m < at → AllByRecursion (λ (b : LineByte). b.at < at) (bytes_without_mark m xs)
unmarked_before at m [] h = tt
unmarked_before at m (x ∷ xs) h = (h, unmarked_before at m xs h)

part_before : (at m : ℕ) (s : Bool) (xs : List ℕ) → has_none xs || nat_lt m at ≡ true → AllByRecursion (λ (b : LineByte). b.at < at) (bytes_with_mark m s xs)
part_before at m s [] h = tt
part_before at m s (x ∷ xs) h = let before : m < at = ltb-true m at h in (before, unmarked_before at m xs before)

pub count_fits : (parts : List LinePart) (h : Acknowledged) (at : ℕ) (p : LinePart) (ps : List LinePart) → IsAcknowledged parts h at → drop h.part parts ≡ p ∷ ps → h.bytes + length p.bytes.now ≤ length (bytes_of_parts parts)
count_fits parts h at p ps acknowledged e =
    let split = ap length (bytes_split h.part parts ∙ ap (λ (xs : List LinePart). bytes_of_parts (take h.part parts) ++ bytes_of_parts xs) e) in
    let first = length-append (bytes_of_parts (take h.part parts)) (bytes_of_part p ++ bytes_of_parts ps) in
    let second = length-append (bytes_of_part p) (bytes_of_parts ps) in
    let len = length-marked p.at p.starts p.bytes.now in
    let count = acknowledged.count in
    omega arith

pub acknowledged_more : (parts : List LinePart) (h : Acknowledged) (at : ℕ) (p : LinePart) (ps : List LinePart) (len : ℕ) → IsAcknowledged parts h at → drop h.part parts ≡ p ∷ ps → h.part < length parts
    → has_none p.bytes.now || nat_lt p.at at ≡ true → len ≡ length p.bytes.now → IsAcknowledged parts (record { part = h.part + 1; bytes = h.bytes + len }) at
acknowledged_more parts h at p ps len acknowledged e below before is =
    let more = bytes_more h.part parts p ps e in
    record {
      within = omega arith;
      count = rw more (omega (arith, acknowledged.count, is, length-append (bytes_of_parts (take h.part parts)) (bytes_of_part p), length-marked p.at p.starts p.bytes.now));
      before = rw more (all_append (λ (b : LineByte). b.at < at) (bytes_of_parts (take h.part parts)) (bytes_of_part p) acknowledged.before (part_before at p.at p.starts p.bytes.now before));
    }

pub acknowledged_later : (parts : List LinePart) (h : Acknowledged) (at after : ℕ) → IsAcknowledged parts h at → at ≤ after → IsAcknowledged parts h after
acknowledged_later parts h at after acknowledged up = record { within = acknowledged.within; count = acknowledged.count; before = all_weaker (λ b. b.at < at) (λ b. b.at < after) (λ b before. let earlier : b.at < at = before in omega arith) (bytes_of_parts (take h.part parts)) acknowledged.before }

-- ---- what was acknowledged is all that was before

pub acknowledged_all : (parts : List LinePart) (h : Acknowledged) (at : ℕ) → IsAcknowledged parts h at → length parts ≤ h.part → h.bytes ≡ bytes_before at (bytes_of_parts parts)
acknowledged_all parts h at acknowledged over =
    let all : bytes_of_parts (take h.part parts) ≡ bytes_of_parts parts = ap bytes_of_parts (take_all h.part parts over) in
    acknowledged.count ∙ ap length (sym (all_kept at (bytes_of_parts (take h.part parts)) acknowledged.before) ∙ ap (filter (λ (b : LineByte). nat_lt b.at at)) all)

part_late : (at low m : ℕ) (s : Bool) (xs : List ℕ) (rest : List LineByte) → has_none xs || nat_lt m at ≡ false → Climbs low (bytes_with_mark m s xs ++ rest) live
    → filter (λ (b : LineByte). nat_lt b.at at) (bytes_with_mark m s xs ++ rest) ≡ []
part_late at low m s [] rest h climbs = absurd cc
part_late at low m s (x ∷ xs) rest h climbs =
    let late : at ≤ m = ltb-false m at h in
    rw (le-ltb m at late) (none_kept at m (bytes_without_mark m xs ++ rest) live late climbs.1)

pub acknowledged_until : (parts : List LinePart) (h : Acknowledged) (at : ℕ) (p : LinePart) (ps : List LinePart) → IsAcknowledged parts h at → drop h.part parts ≡ p ∷ ps → has_none p.bytes.now || nat_lt p.at at ≡ false
    → Climbs 0 (bytes_of_parts parts) live → h.bytes ≡ bytes_before at (bytes_of_parts parts)
acknowledged_until parts h at p ps acknowledged e after climbs =
    let front : List LineByte = bytes_of_parts (take h.part parts) in
    let back : List LineByte = bytes_of_part p ++ bytes_of_parts ps in
    let split : bytes_of_parts parts ≡ front ++ back = bytes_split h.part parts ∙ ap (λ (xs : List LinePart). front ++ bytes_of_parts xs) e in
    let behind = climbs_behind 0 front back live (subst (λ (xs : List LineByte). Climbs 0 xs live) split climbs) in
    let none : filter (λ (b : LineByte). nat_lt b.at at) back ≡ [] = part_late at behind.0 p.at p.starts p.bytes.now (bytes_of_parts ps) after behind.2 in
    acknowledged.count
    ∙ ap length (sym (all_kept at front acknowledged.before) ∙ sym (append-nil (filter (λ (b : LineByte). nat_lt b.at at) front)) ∙ ap (λ ys. filter (λ (b : LineByte). nat_lt b.at at) front ++ ys) (sym none)
    ∙ sym (filter-append (λ (b : LineByte). nat_lt b.at at) front back) ∙ ap (filter (λ (b : LineByte). nat_lt b.at at)) (sym split))

-- a part that is read twice is one
pub same_len : (parts : List LinePart) (i : ℕ) (p q : LinePart) (ps qs : List LinePart) → drop i parts ≡ p ∷ ps → drop i parts ≡ q ∷ qs → length q.bytes.now ≡ length p.bytes.now
same_len parts i p q ps qs e f = let same : q ≡ p = cc in ap (λ (r : LinePart). length r.bytes.now) same
