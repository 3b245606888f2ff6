-- The delays of two lines, over runs of bytes of one instant.
use Rattle.std.proofs.Common.{◌≡◌, ◌≤◌, ◌<◌, ℕ, zero, suc, ◌+◌, ◌-◌, ◌==◌, min, max, Bool, true, false, cond, List, [], ◌∷◌, ◌++◌, map, length, drop, get_or, replicate, refl, sym, ap, ◌∙◌, arith, zero-add, drop-cons, ne_eqb}
use Rattle.std.specs.List.{zip, flat_map}
use Rattle.std.proofs.Math.ListN.{drop_of_length-le}
use Rattle.std.proofs.Math.Seq.{drop-nil}
use Rattle.std.proofs.lemmas.Bool.{eqb-true}
use Rattle.std.proofs.lemmas.List.{map-append}
use Rattle.pcap_records.specs.Instants.{greatest}
use Rattle.reassembly.specs.RecordedLines.{LineByte}
use Rattle.reassembly.specs.LineView.{bytes_of_part, bytes_of_parts, bytes_with_mark, bytes_without_mark}
use Rattle.reassembly.specs.declared.line_parts.LinePart.{LinePart}
use Rattle.report.specs.ReportText.{longest_delay}
use Rattle.report.specs.declared.sides.Cursor.{Cursor}

-- ---- instants

-- the longest delay of instants against those at the same position
abbrev pub longest_of : List ℕ → List ℕ → ℕ
longest_of sent came = greatest (map (λ (s, c). c - s) (zip sent came))

abbrev pub instants_of_part : LinePart → List ℕ
instants_of_part p = replicate (length p.bytes.now) p.at

abbrev pub instants_of_parts : List LinePart → List ℕ
instants_of_parts parts = flat_map instants_of_part parts

abbrev pub instant_of : LineByte → ℕ
instant_of b = b.at

unmarked_instants : (at : ℕ) (bytes : List ℕ) → map instant_of (bytes_without_mark at bytes) ≡ replicate (length bytes) at
unmarked_instants at [] = refl
unmarked_instants at (x ∷ bytes) = ap (λ ns. at ∷ ns) (unmarked_instants at bytes)

marked_instants : (at : ℕ) (starts : Bool) (bytes : List ℕ) → map instant_of (bytes_with_mark at starts bytes) ≡ replicate (length bytes) at
marked_instants at starts [] = refl
marked_instants at starts (x ∷ bytes) = ap (λ ns. at ∷ ns) (unmarked_instants at bytes)

instants_are : (parts : List LinePart) → map instant_of (bytes_of_parts parts) ≡ instants_of_parts parts
instants_are [] = refl
instants_are (p ∷ parts) =
    map-append instant_of (bytes_of_part p) (bytes_of_parts parts)
    ∙ ap (λ ns. ns ++ map instant_of (bytes_of_parts parts)) (marked_instants p.at p.starts p.bytes.now)
    ∙ ap (λ ns. instants_of_part p ++ ns) (instants_are parts)

delays_are : (sent came : List LineByte) → longest_delay sent came ≡ longest_of (map instant_of sent) (map instant_of came)
delays_are [] came = refl
delays_are (s ∷ sent) [] = refl
delays_are (s ∷ sent) (c ∷ came) = ap (λ n. max (c.at - s.at) n) (delays_are sent came)

-- ---- a run

longest_run : (n a b : ℕ) (sent came : List ℕ) → longest_of (replicate n a ++ sent) (replicate n b ++ came) ≡ max (cond (n == 0) 0 (b - a)) (longest_of sent came)
longest_run zero a b sent came = omega arith
longest_run (suc n) a b sent came = rw no (by_test (n == 0) (longest_run n a b sent came))
  where
    no : (suc n == 0) ≡ false
    no = ne_eqb (suc n) 0 (λ q. absurd (omega arith))

    by_test : (t : Bool) → longest_of (replicate n a ++ sent) (replicate n b ++ came) ≡ max (cond t 0 (b - a)) (longest_of sent came)
        → max (b - a) (longest_of (replicate n a ++ sent) (replicate n b ++ came)) ≡ max (b - a) (longest_of sent came)
    by_test true h = omega arith
    by_test false h = omega arith

run_first : (m n a : ℕ) (more : List ℕ) → n ≤ m → replicate m a ++ more ≡ replicate n a ++ drop n (replicate m a ++ more)
run_first m zero a more h = refl
run_first zero (suc n) a more h = absurd (omega arith)
run_first (suc m) (suc n) a more h = ap (λ ns. a ∷ ns) (run_first m n a more (omega arith))

run_next : (m k n a : ℕ) (more : List ℕ) → k + n ≤ m → drop k (replicate m a ++ more) ≡ replicate n a ++ drop (k + n) (replicate m a ++ more)
run_next m zero n a more h = rw (zero-add n) (run_first m n a more (omega arith))
run_next zero (suc k) n a more h = absurd (omega arith)
run_next (suc m) (suc k) n a more h = let e : suc k + n ≡ suc (k + n) = omega arith in rw e (run_next m k n a more (omega arith))

run_passed : (m a : ℕ) (more : List ℕ) → drop m (replicate m a ++ more) ≡ more
run_passed zero a more = refl
run_passed (suc m) a more = run_passed m a more

-- ---- cursors

-- the instants after a cursor
abbrev pub rest_at : List LinePart → Cursor → List ℕ
rest_at parts q = drop q.offset (instants_of_parts (drop q.part parts))

-- the bytes of the first part
abbrev pub first_len : List LinePart → ℕ
first_len [] = 0
first_len (p ∷ parts) = length p.bytes.now

-- no more is passed of a part than it has
abbrev pub IsWithin : List LinePart → Cursor → Type 0
IsWithin parts q = q.offset ≤ first_len (drop q.part parts)

abbrev pub cursor_on : Cursor → ℕ → ℕ → Cursor
cursor_on q len run = cond (q.offset + run == len) (record { part = q.part + 1; offset = 0 }) (record { part = q.part; offset = q.offset + run })

part_here : (parts : List LinePart) (q : Cursor) (p : LinePart) → q.part < length parts → p ≡ get_or parts q.part p → drop q.part parts ≡ p ∷ drop (q.part + 1) parts
part_here parts q p lt is =
    let e : q.part + 1 ≡ suc q.part = omega arith in
    drop-cons parts q.part p lt ∙ rw (e, ← is) refl

pub passed_here : (parts : List LinePart) (q : Cursor) (p : LinePart) → q.part < length parts → p ≡ get_or parts q.part p → IsWithin parts q → q.offset ≤ length p.bytes.now
passed_here parts q p lt is h = rw (part_here parts q p lt is) at h

within_on : (parts : List LinePart) (q : Cursor) (p : LinePart) (run : ℕ) → q.part < length parts → p ≡ get_or parts q.part p → q.offset + run ≤ length p.bytes.now
    → IsWithin parts (cursor_on q (length p.bytes.now) run)
within_on parts q p run lt is h = by_test (q.offset + run == length p.bytes.now)
  where
    by_test : (t : Bool) → IsWithin parts (cond t (record { part = q.part + 1; offset = 0 }) (record { part = q.part; offset = q.offset + run }))
    by_test true = omega arith
    by_test false = rw (part_here parts q p lt is) h

rest_on : (parts : List LinePart) (q : Cursor) (p : LinePart) (run : ℕ) → q.part < length parts → p ≡ get_or parts q.part p → q.offset + run ≤ length p.bytes.now
    → rest_at parts q ≡ replicate run p.at ++ rest_at parts (cursor_on q (length p.bytes.now) run)
rest_on parts q p run lt is h = by_test (q.offset + run == length p.bytes.now) refl
  where
    more : List ℕ
    more = instants_of_parts (drop (q.part + 1) parts)

    here : rest_at parts q ≡ replicate run p.at ++ drop (q.offset + run) (replicate (length p.bytes.now) p.at ++ more)
    here = rw (part_here parts q p lt is) (run_next (length p.bytes.now) q.offset run p.at more h)

    by_test : (t : Bool) → (q.offset + run == length p.bytes.now) ≡ t
        → rest_at parts q ≡ replicate run p.at ++ rest_at parts (cond t (record { part = q.part + 1; offset = 0 }) (record { part = q.part; offset = q.offset + run }))
    by_test true e =
        let same : q.offset + run ≡ length p.bytes.now = eqb-true (q.offset + run) (length p.bytes.now) e in
        here ∙ ap (λ k. replicate run p.at ++ drop k (replicate (length p.bytes.now) p.at ++ more)) same ∙ ap (λ ns. replicate run p.at ++ ns) (run_passed (length p.bytes.now) p.at more)
    by_test false e = here ∙ ap (λ ps. replicate run p.at ++ drop (q.offset + run) (instants_of_parts ps)) (sym (part_here parts q p lt is))

-- ---- the walk

-- the longest delay so far, and that of the bytes after two cursors
pub record Walk (recorded delivered : List LinePart) (from to : Cursor) (longest : ℕ) : Type 0 where
  pub from_within : IsWithin recorded from
  pub to_within : IsWithin delivered to
  pub done : max longest (longest_of (rest_at recorded from) (rest_at delivered to)) ≡ longest_of (instants_of_parts recorded) (instants_of_parts delivered)

pub walk_on : (recorded delivered : List LinePart) (from to : Cursor) (longest longer run : ℕ) (s c : LinePart) → Walk recorded delivered from to longest
    → from.part < length recorded → to.part < length delivered → s ≡ get_or recorded from.part s → c ≡ get_or delivered to.part c
    → run ≡ min (length s.bytes.now - from.offset) (length c.bytes.now - to.offset) → longer ≡ max longest (cond (run == 0) 0 (c.at - s.at))
    → Walk recorded delivered (cursor_on from (length s.bytes.now) run) (cursor_on to (length c.bytes.now) run) longer
walk_on recorded delivered from to longest longer run s c w lts ltc iss isc r l =
    let hs = passed_here recorded from s lts iss w.from_within in
    let hc = passed_here delivered to c ltc isc w.to_within in
    let hs' : from.offset + run ≤ length s.bytes.now = omega arith in
    let hc' : to.offset + run ≤ length c.bytes.now = omega arith in
    let es = rest_on recorded from s run lts iss hs' in
    let ec = rest_on delivered to c run ltc isc hc' in
    let step : longest_of (rest_at recorded from) (rest_at delivered to)
    ≡ max (cond (run == 0) 0 (c.at - s.at)) (longest_of (rest_at recorded (cursor_on from (length s.bytes.now) run)) (rest_at delivered (cursor_on to (length c.bytes.now) run))) =
    ap (λ ns. longest_of ns (rest_at delivered to)) es ∙ ap (λ ns. longest_of (replicate run s.at ++ rest_at recorded (cursor_on from (length s.bytes.now) run)) ns) ec
    ∙ longest_run run s.at c.at (rest_at recorded (cursor_on from (length s.bytes.now) run)) (rest_at delivered (cursor_on to (length c.bytes.now) run)) in
    record {
      from_within = within_on recorded from s run lts iss hs';
      to_within = within_on delivered to c run ltc isc hc';
      done = joined longest longer (cond (run == 0) 0 (c.at - s.at)) (longest_of (rest_at recorded from) (rest_at delivered to))
          (longest_of (rest_at recorded (cursor_on from (length s.bytes.now) run)) (rest_at delivered (cursor_on to (length c.bytes.now) run))) (longest_of (instants_of_parts recorded) (instants_of_parts delivered)) w.done step l;
    }
  where
    joined : (longest longer delay rest rest' whole : ℕ) → max longest rest ≡ whole → rest ≡ max delay rest' → longer ≡ max longest delay → max longer rest' ≡ whole
    joined longest longer delay rest rest' whole a b c = omega arith

longest_none : (sent : List ℕ) → longest_of sent [] ≡ 0
longest_none [] = refl
longest_none (s ∷ sent) = refl

rest_none : (parts : List LinePart) (q : Cursor) → length parts ≤ q.part → rest_at parts q ≡ []
rest_none parts q h = ap (λ ps. drop q.offset (instants_of_parts ps)) (drop_of_length-le parts h) ∙ drop-nil q.offset

walk_whole : (recorded delivered : List LinePart) (from to : Cursor) (longest : ℕ) → Walk recorded delivered from to longest
    → longest_of (rest_at recorded from) (rest_at delivered to) ≡ 0 → longest ≡ longest_delay (bytes_of_parts recorded) (bytes_of_parts delivered)
walk_whole recorded delivered from to longest w none =
    let d = w.done in
    let e : longest ≡ longest_of (instants_of_parts recorded) (instants_of_parts delivered) = omega arith in
    e ∙ sym (delays_are (bytes_of_parts recorded) (bytes_of_parts delivered) ∙ ap (λ ns. longest_of ns (map instant_of (bytes_of_parts delivered))) (instants_are recorded)
    ∙ ap (longest_of (instants_of_parts recorded)) (instants_are delivered))

pub recorded_ends : (recorded delivered : List LinePart) (from to : Cursor) (longest : ℕ) → Walk recorded delivered from to longest → length recorded ≤ from.part
    → longest ≡ longest_delay (bytes_of_parts recorded) (bytes_of_parts delivered)
recorded_ends recorded delivered from to longest w h =
    walk_whole recorded delivered from to longest w (ap (λ ns. longest_of ns (rest_at delivered to)) (rest_none recorded from h))

pub delivered_ends : (recorded delivered : List LinePart) (from to : Cursor) (longest : ℕ) → Walk recorded delivered from to longest → length delivered ≤ to.part
    → longest ≡ longest_delay (bytes_of_parts recorded) (bytes_of_parts delivered)
delivered_ends recorded delivered from to longest w h =
    walk_whole recorded delivered from to longest w (ap (longest_of (rest_at recorded from)) (rest_none delivered to h) ∙ longest_none (rest_at recorded from))
