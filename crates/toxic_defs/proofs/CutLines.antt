-- What the session cut leaves of a line, and of lines that are made of recorded bytes.
use Rattle.std.proofs.Common.{◌≡◌, ◌≤◌, ◌<◌, ℕ, ◌+◌, min, true, cond, List, [], ◌∷◌, length, nat_le, nat_lt, Option, Some, None, refl, sym, ap, ◌∙◌, subst, arith}
use Rattle.std.proofs.Math.Nat.{le_trans, le_refl}
use Rattle.std.proofs.lemmas.Bool.{ltb-true, ltb-false, le-ltb, cond_both}
use Rattle.std.proofs.lemmas.Bool.Decides.{nat_tests}
use Rattle.lists.proofs.Lists.{all_take}
use Rattle.pcap_records.specs.Instants.{horizon}
use Rattle.reassembly.specs.RecordedLines.{LineByte, Line, End, live, fin, close, reset}
use Rattle.reassembly.specs.LineLaws.{IsInChunks, last_instant, IsNotBefore, IsLine}
use Rattle.toxic_defs.specs.EndRule.{is_before}
use Rattle.toxic_defs.specs.SessionCut.{closing_end, first_closing, is_after, line_up_to, line_before, cut_line, cut_instant}
use Rattle.toxic_defs.specs.Laws.{IsBefore, CutLinesAreLines, FirstBytesStay, CutLinesEndInTime, CutEndsAreNotEarly, DelaysFirst, AreUpTo, RecordedLinesDelay, CutLinesDelay}
use Rattle.toxic_defs.proofs.FirstBytes.{before_short, bytes_before, up_to, first_stay, before_in_chunks, chunks_go_on, last_not_later, all_before, last_within}
use Rattle.toxic_defs.proofs.KeptBytes.{itself, taken}

pub not_before_weaker : (a b : ℕ) (e : End) → a ≤ b → IsNotBefore b e → IsNotBefore a e
not_before_weaker a b live h g = tt
not_before_weaker a b (fin at) h g = le_trans h g
not_before_weaker a b (close at) h g = le_trans h g
not_before_weaker a b (reset at) h g = le_trans h g

-- a closing's end is at its instant, and not before another one
pub record IsClosing (least : ℕ) (c : ℕ × End) : Type 0 where
  pub behind : least ≤ c.0
  pub ends : IsNotBefore c.0 c.1

abbrev pub AreClosings : ℕ → Option (ℕ × End) → Type 0
AreClosings least None = Unit {0}
AreClosings least (Some c) = IsClosing least c

closing_is : (least : ℕ) (e : End) → IsNotBefore least e → AreClosings least (closing_end e)
closing_is least live h = tt
closing_is least (fin at) h = tt
closing_is least (close at) h = record { behind = h; ends = le_refl at }
closing_is least (reset at) h = record { behind = h; ends = le_refl at }

first_is : (least : ℕ) (u d : Option (ℕ × End)) → AreClosings least u → AreClosings least d → AreClosings least (first_closing u d)
first_is least None d hu hd = hd
first_is least (Some u) None hu hd = hu
first_is least (Some u) (Some d) hu hd = cond_both (nat_le u.0 d.0) (Some u) (Some d) (AreClosings least) (λ _. hu) (λ _. hd)

both_is : (least : ℕ) (up down : Line) → IsNotBefore least up.end → IsNotBefore least down.end → AreClosings least (first_closing (closing_end up.end) (closing_end down.end))
both_is least up down hu hd = first_is least (closing_end up.end) (closing_end down.end) (closing_is least up.end hu) (closing_is least down.end hd)

no_instant : (e : End) → IsNotBefore 0 e
no_instant live = tt
no_instant (fin at) = omega arith
no_instant (close at) = omega arith
no_instant (reset at) = omega arith

-- the horizon takes an end away or leaves it as it is
end_stays : (limit at : ℕ) (e : End) → IsNotBefore at e → IsNotBefore at (cond (is_before limit e) e live)
end_stays limit at e h = cond_both (is_before limit e) e live (IsNotBefore at) (λ _. h) (λ _. tt)

is_early : (limit : ℕ) (e : End) → is_before limit e ≡ true → IsBefore limit e
is_early limit live h = tt
is_early limit (fin at) h = ltb-true at limit h
is_early limit (close at) h = ltb-true at limit h
is_early limit (reset at) h = ltb-true at limit h

end_in_time : (limit : ℕ) (e : End) → IsBefore limit (cond (is_before limit e) e live)
end_in_time limit e = cond_both (is_before limit e) e live (IsBefore limit) (is_early limit e) (λ _. tt)

pub cut_lines_end_in_time : CutLinesEndInTime
unfolding cut_line
cut_lines_end_in_time ticks up down f =
    let g : Line = line_up_to (first_closing (closing_end up.end) (closing_end down.end)) f in
    record { bytes = all_before (horizon ticks) g.bytes; ends = end_in_time (horizon ticks) g.end }

up_to_not_early : (opened : ℕ) (c : Option (ℕ × End)) (f : Line) → AreClosings opened c → IsNotBefore opened f.end → IsNotBefore opened (line_up_to c f).end
up_to_not_early opened None f hc h = h
up_to_not_early opened (Some c) f hc h = cond_both (is_after c.0 f.end) c.1 f.end (IsNotBefore opened) (λ _. not_before_weaker opened c.0 c.1 hc.behind hc.ends) (λ _. h)

pub cut_ends_are_not_early : CutEndsAreNotEarly
unfolding cut_line
cut_ends_are_not_early ticks opened up down f hu hd hf =
    let c : Option (ℕ × End) = first_closing (closing_end up.end) (closing_end down.end) in
    end_stays (horizon ticks) opened (line_up_to c f).end (up_to_not_early opened c f (both_is opened up down hu hd) hf)

before_ends : (limit : ℕ) (bytes : List LineByte) (e : End) → IsInChunks bytes → IsNotBefore (last_instant 0 bytes) e → IsNotBefore (last_instant 0 (bytes_before limit bytes)) e
before_ends limit bytes e g h = not_before_weaker (last_instant 0 (bytes_before limit bytes)) (last_instant 0 bytes) e (last_not_later limit 0 bytes (chunks_go_on bytes g)) h

-- the end is not before the last byte that stays
before_is_line : (limit : ℕ) (f : Line) (end : End) → IsLine f → IsNotBefore (last_instant 0 (bytes_before limit f.bytes)) end → IsLine (record { bytes = bytes_before limit f.bytes; end = end })
before_is_line limit f end h ends = record { chunks = before_in_chunks limit f.bytes h.chunks; ends = ends; short = let n = before_short limit f.bytes in let m = h.short in omega (arith, n, m) }

line_before_is : (limit : ℕ) (f : Line) → IsLine f → IsLine (line_before limit f)
line_before_is limit f h = before_is_line limit f (line_before limit f).end h (before_ends limit f.bytes (line_before limit f).end h.chunks (end_stays limit (last_instant 0 f.bytes) f.end h.ends))

line_up_to_is : (c : Option (ℕ × End)) (f : Line) → AreClosings 0 c → IsLine f → IsLine (line_up_to c f)
line_up_to_is None f hc h = h
line_up_to_is (Some c) f hc h =
    let bytes : List LineByte = bytes_before (c.0 + 1) f.bytes in
    let end : End = cond (is_after c.0 f.end) c.1 f.end in
    let last : last_instant 0 bytes < c.0 + 1 = last_within (c.0 + 1) 0 bytes (omega arith) (all_before (c.0 + 1) f.bytes) in
    let ends : IsNotBefore (last_instant 0 bytes) end =
    cond_both (is_after c.0 f.end) c.1 f.end (IsNotBefore (last_instant 0 bytes)) (λ _. not_before_weaker (last_instant 0 bytes) c.0 c.1 (omega arith) hc.ends) (λ _. before_ends (c.0 + 1) f.bytes f.end h.chunks h.ends) in
    subst (λ (bs : List LineByte). IsLine (record { bytes = bs; end = end })) (sym (up_to c.0 f.bytes)) (before_is_line (c.0 + 1) f end h ends)

pub cut_lines_are_lines : CutLinesAreLines
unfolding cut_line
cut_lines_are_lines ticks up down f h =
    let c : Option (ℕ × End) = first_closing (closing_end up.end) (closing_end down.end) in
    line_before_is (horizon ticks) (line_up_to c f) (line_up_to_is c f (both_is 0 up down (no_instant up.end) (no_instant down.end)) h)

-- ---- the bytes that stay

-- a cut after a cut is one at the earlier instant
before_twice : (a b : ℕ) (bytes : List LineByte) → bytes_before b (bytes_before a bytes) ≡ bytes_before (min a b) bytes
before_twice a b [] = refl
before_twice a b (x ∷ bytes) =
    cond_both (nat_lt x.at a) (x ∷ bytes_before a bytes) (bytes_before a bytes) (λ bs. bytes_before b bs ≡ bytes_before (min a b) (x ∷ bytes))
    (λ t.
    let lt : x.at < a = ltb-true x.at a t in
    let same : nat_lt x.at (min a b) ≡ nat_lt x.at b = grind (arith, nat_tests) in
    rw (before_twice a b bytes, same) refl)
    (λ t.
    let le : a ≤ x.at = ltb-false x.at a t in
    let le' : min a b ≤ x.at = omega arith in
    rw le-ltb (before_twice a b bytes))

-- the bytes of a line that is cut are those before one instant
pub cut_bytes : (limit : ℕ) (c : Option (ℕ × End)) (f : Line) → (line_before limit (line_up_to c f)).bytes ≡ bytes_before (cut_instant limit c) f.bytes
cut_bytes limit None f = refl
cut_bytes limit (Some c) f = ap (bytes_before limit) (up_to c.0 f.bytes) ∙ before_twice (c.0 + 1) limit f.bytes

pub first_bytes_stay : FirstBytesStay
unfolding cut_line
first_bytes_stay ticks up down f h =
    let c : Option (ℕ × End) = first_closing (closing_end up.end) (closing_end down.end) in
    rw (cut_bytes (horizon ticks) c f) (first_stay (cut_instant (horizon ticks) c) 0 f.bytes (chunks_go_on f.bytes h.chunks))

-- ---- a line that is made of the bytes and the end that stay

up_to_end : (c : Option (ℕ × End)) (f : Line) → (line_up_to c (record { bytes = []; end = f.end })).end ≡ (line_up_to c f).end
up_to_end None f = refl
up_to_end (Some c) f = refl

pub cut_made : (limit : ℕ) (c : Option (ℕ × End)) (f g : Line) (end : End) → g.bytes ≡ bytes_before (cut_instant limit c) f.bytes
    → end ≡ (line_up_to c (record { bytes = []; end = f.end })).end → g.end ≡ (line_before limit (record { bytes = []; end = end })).end
    → g ≡ line_before limit (line_up_to c f)
cut_made limit c f g end hb he hg =
    let made : Line = line_before limit (line_up_to c f) in
    let b : g.bytes ≡ made.bytes = hb ∙ sym (cut_bytes limit c f) in
    let e : g.end ≡ made.end = hg ∙ ap (λ x. (line_before limit (record { bytes = []; end = x })).end) (he ∙ up_to_end c f) in
    ap (λ (bs : List LineByte). let r : Line = record { bytes = bs; end = g.end } in r) b ∙ ap (λ (x : End). let r : Line = record { bytes = made.bytes; end = x } in r) e

-- ---- recorded bytes

pub recorded_lines_delay : RecordedLinesDelay
recorded_lines_delay ticks opened f line in_time ends = record { line = line; in_time = in_time; bytes = itself f.bytes; ends = ends }

pub cut_lines_delay : CutLinesDelay
cut_lines_delay ticks opened recorded up down f hu hd g =
    let cut : Line = cut_line ticks up down f in
    let n : ℕ = length cut.bytes in
    let first = sym (first_bytes_stay ticks up down f g.line) in
    record {
      line = cut_lines_are_lines ticks up down f g.line;
      in_time = subst (AreUpTo (horizon ticks)) first (all_take (λ (b : LineByte). b.at ≤ horizon ticks) n f.bytes g.in_time);
      bytes = subst (λ (bs : List LineByte). DelaysFirst bs recorded) first (taken n f.bytes recorded g.bytes);
      ends = cut_ends_are_not_early ticks opened up down f hu hd g.ends;
    }
