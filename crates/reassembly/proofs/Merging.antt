-- Ordered lists of spans, one laid over the other: what each turn of `overlay` keeps.
use Rattle.std.proofs.Common.{◌≡◌, ◌<◌, ◌≤◌, ◌⊎◌, inl, inr, ℕ, ◌-◌, min, List, [], ◌∷◌, ◌++◌, length, take, drop, None, refl, sym, ap, ◌∙◌, subst, arith, length-take, length-drop, append-nil, append_assoc}
use Rattle.std.specs.Option.{option_or}
use Rattle.std.proofs.lemmas.Bool.{cases_lt}
use Rattle.std.proofs.lemmas.List.{drop_all, take-map, drop-map, map-append, take-append-drop}
use Rattle.lists.proofs.Lists.{option_or-assoc, all_take, all_drop}
use Rattle.reassembly.specs.declared.patches.Patch.{Patch}
use Rattle.reassembly.specs.Spans.{Span, limit, end_of, byte_in, first_byte, layered_byte, span_below, span_from, unless_empty, AreOrdered, IsNear, AreNear, spans_from, span_of, spans}
use Rattle.reassembly.proofs.SpanBytes.{byte_in-before, byte_in-past, byte_in-within, front-keeps, front-hides, back-keeps, back-hides, back-all, or-none, first_byte-append, first_byte-one, first_byte-unless_empty, AreOrdered-bounds, AreOrdered-down, AreOrdered-append, AreOrdered-unless_empty, first_byte-before}

-- `out` is merged, up to `place`; `ls` and the rest of `rs` are left
pub record Merge (left right out ls rs : List Span) (floor : ℕ) : Type 0 where
  pub place : ℕ
  pub passed : floor ≤ place
  pub out_to : AreOrdered 0 out place
  pub ls_from : AreOrdered place ls limit
  pub rs_from : AreOrdered place (spans_from floor rs) limit
  pub same : (x : ℕ) → option_or (first_byte out x) (layered_byte ls (spans_from floor rs) x) ≡ layered_byte left right x

-- ---- turns

-- if the lower span ends by the end of the upper one, its front is merged, and its rest is hidden

merged_part : (out : List Span) (place : ℕ) (h cur : Span) → AreOrdered 0 out place → place ≤ h.from → place ≤ cur.from
    → AreOrdered 0 (out ++ unless_empty (span_below h.from cur)) (min (end_of cur) h.from)
merged_part out place h cur o a b =
    AreOrdered-append 0 place (min (end_of cur) h.from) out (unless_empty (span_below h.from cur)) o
    (AreOrdered-unless_empty place (min (end_of cur) h.from) (span_below h.from cur) (omega arith) b (λ some. omega (arith, some, length-take (h.from - cur.from) cur.bytes)))

spans_from-none : (floor place : ℕ) (rs : List Span) → floor ≤ place → AreOrdered place rs limit → spans_from floor rs ≡ rs
spans_from-none floor place [] a o = refl
spans_from-none floor place (r ∷ rs) a o = let c : place ≤ r.from = o.0 in ap (λ p. p ∷ rs) (back-all floor r (omega arith))

rest_from : (floor place place' : ℕ) (rs : List Span) → floor ≤ place → AreOrdered place rs limit → place' ≤ place → AreOrdered place' (spans_from floor rs) limit
rest_from floor place place' rs a o b =
    let P : List Span → Type 0 = λ qs. AreOrdered place' qs limit in
    subst P (sym (spans_from-none floor place rs a o)) (AreOrdered-down place place' rs limit o b)

same_hidden : (out : List Span) (h : Span) (ls : List Span) (cur : Span) (rs : List Span) (x : ℕ)
    → AreOrdered (end_of h) ls limit → end_of cur ≤ end_of h
    → option_or (first_byte (out ++ unless_empty (span_below h.from cur)) x) (layered_byte (h ∷ ls) rs x) ≡ option_or (first_byte out x) (layered_byte (h ∷ ls) (cur ∷ rs) x)
same_hidden out h ls cur rs x o e =
    let part : Span = span_below h.from cur in
    rw (first_byte-append out (unless_empty part) x, first_byte-unless_empty part x)
    (option_or-assoc (first_byte out x) (byte_in part x) (layered_byte (h ∷ ls) rs x)
    ∙ ap (option_or (first_byte out x))
    (elim (cases_lt x h.from) [
      | inl a ↦ rw (front-keeps h.from cur x a, byte_in-before h x a, first_byte-before (end_of h) ls limit x o (omega arith)) refl
      | inr a ↦ elim (cases_lt x (end_of h)) [
        | inl b ↦ rw (front-hides h.from cur x a, byte_in-within h x a b) refl
        | inr b ↦ rw (front-hides h.from cur x a, byte_in-past cur x (omega arith)) refl
      ]
    ]))

pub hidden_at : (left right out ls rs : List Span) (floor : ℕ) → Merge left right out ls rs floor
    → (h : Span) (ls2 : List Span) → ls ≡ h ∷ ls2 → (r : Span) (rs2 : List Span) → rs ≡ r ∷ rs2
    → (cur : Span) → cur ≡ span_from floor r → (part : Span) → part ≡ span_below h.from cur → (new : List Span) → new ≡ out ++ unless_empty part
    → (upper lower : ℕ) → upper ≡ end_of h → lower ≡ end_of cur → lower ≤ upper
    → Merge left right new ls rs2 floor
hidden_at left right out ls rs floor old h ls2 ls_are r rs2 rs_are cur cur_is part part_is new new_is upper lower upper_is lower_is le =
    let m = rw (ls_are, rs_are) at old in
    let from : Span = span_from floor r in
    let lower_is' : lower ≡ end_of from = rw cur_is at lower_is in
    let lf = m.ls_from in
    let rf = m.rs_from in
    let a : m.place ≤ h.from = lf.0 in
    let b : m.place ≤ from.from = rf.0 in
    let c : floor ≤ m.place = m.passed in
    let place : ℕ = min (end_of from) h.from in
    rw (new_is, part_is, cur_is, ls_are)
    (record {
      place = place;
      passed = omega arith;
      out_to = merged_part out m.place h from m.out_to a b;
      ls_from = (omega arith, lf.1, lf.2);
      rs_from = rest_from floor (end_of from) place rs2 (omega arith) rf.2 (omega arith);
      same = λ x. ap (λ qs. option_or (first_byte (out ++ unless_empty (span_below h.from from)) x) (layered_byte (h ∷ ls2) qs x)) (spans_from-none floor (end_of from) rs2 (omega arith) rf.2) ∙ same_hidden out h ls2 from rs2 x lf.2 (omega arith) ∙ m.same x;
    })

-- if the lower span ends later, its front and the upper span are merged, and its rest is left

same_added : (out : List Span) (h : Span) (ls : List Span) (r : Span) (rs : List Span) (floor : ℕ) (x : ℕ)
    → AreOrdered (end_of h) ls limit → AreOrdered (end_of (span_from floor r)) rs limit → floor ≤ h.from → end_of h < end_of (span_from floor r)
    → option_or (first_byte ((out ++ unless_empty (span_below h.from (span_from floor r))) ++ h ∷ []) x) (layered_byte ls (span_from (end_of h) r ∷ rs) x)
    ≡ option_or (first_byte out x) (layered_byte (h ∷ ls) (span_from floor r ∷ rs) x)
same_added out h ls r rs floor x o q f e =
    let cur : Span = span_from floor r in
    let rest : Span = span_from (end_of h) r in
    let part : Span = span_below h.from cur in
    rw (append_assoc out (unless_empty part) (h ∷ []), first_byte-append out (unless_empty part ++ h ∷ []) x, first_byte-append (unless_empty part) (h ∷ []) x, first_byte-unless_empty part x, first_byte-one h x)
    (option_or-assoc (first_byte out x) (option_or (byte_in part x) (byte_in h x)) (layered_byte ls (rest ∷ rs) x)
    ∙ ap (option_or (first_byte out x))
    (elim (cases_lt x h.from) [
      | inl a ↦
          rw (front-keeps h.from cur x a, byte_in-before h x a, first_byte-before (end_of h) ls limit x o (omega arith), first_byte-before (end_of cur) rs limit x q (omega arith), back-hides (end_of h) r x (omega arith))
          (ap (λ b. option_or b None) (or-none (byte_in cur x)))
      | inr a ↦ elim (cases_lt x (end_of h)) [
        | inl b ↦ rw (front-hides h.from cur x a, byte_in-within h x a b) refl
        | inr b ↦ rw (front-hides h.from cur x a, byte_in-past h x b, back-keeps (end_of h) r x b, back-keeps floor r x (omega arith)) refl
      ]
    ]))

pub added_at : (left right out ls rs : List Span) (floor : ℕ) → Merge left right out ls rs floor
    → (h : Span) (ls2 : List Span) → ls ≡ h ∷ ls2 → (r : Span) (rs2 : List Span) → rs ≡ r ∷ rs2
    → (cur : Span) → cur ≡ span_from floor r → (part : Span) → part ≡ span_below h.from cur → (mid : List Span) → mid ≡ out ++ unless_empty part → (new : List Span) → new ≡ mid ++ h ∷ []
    → (upper lower : ℕ) → upper ≡ end_of h → lower ≡ end_of cur → upper < lower
    → Merge left right new ls2 rs upper
added_at left right out ls rs floor old h ls2 ls_are r rs2 rs_are cur cur_is part part_is mid mid_is new new_is upper lower upper_is lower_is lt =
    let m = rw (ls_are, rs_are) at old in
    let from : Span = span_from floor r in
    let lower_is' : lower ≡ end_of from = rw cur_is at lower_is in
    let lf = m.ls_from in
    let rf = m.rs_from in
    let a : m.place ≤ h.from = lf.0 in
    let b : m.place ≤ from.from = rf.0 in
    let c : floor ≤ m.place = m.passed in
    let full : 0 < length from.bytes = rf.1 in
    let some : 0 < length h.bytes = lf.1 in
    let whole : end_of from ≡ end_of r = omega (arith, length-drop (floor - r.from) r.bytes) in
    let less : end_of (span_from (end_of h) r) ≡ end_of r = omega (arith, length-drop (end_of h - r.from) r.bytes) in
    rw (new_is, mid_is, part_is, cur_is, upper_is, rs_are)
    (record {
      place = end_of h;
      passed = omega arith;
      out_to = AreOrdered-append 0 (min (end_of from) h.from) (end_of h) (out ++ unless_empty (span_below h.from from)) (h ∷ []) (merged_part out m.place h from m.out_to a b) (omega arith, some, omega arith);
      ls_from = lf.2;
      rs_from = (omega arith, omega (arith, length-drop (end_of h - r.from) r.bytes), AreOrdered-down (end_of from) (end_of (span_from (end_of h) r)) rs2 limit rf.2 (omega arith));
      same = λ x. same_added out h ls2 r rs2 floor x lf.2 rf.2 (omega arith) (omega arith) ∙ m.same x;
    })

-- ---- the ends of spans

pub upper_end : (left right out ls rs : List Span) (floor : ℕ) → Merge left right out ls rs floor → (h : Span) (ls2 : List Span) → ls ≡ h ∷ ls2 → end_of h ≤ limit
upper_end left right out ls rs floor m h ls2 e = let o = rw e at m.ls_from in AreOrdered-bounds (end_of h) ls2 limit o.2

pub lower_end : (left right out ls rs : List Span) (floor : ℕ) → Merge left right out ls rs floor → (r : Span) (rs2 : List Span) → rs ≡ r ∷ rs2
    → (cur : Span) → cur ≡ span_from floor r → end_of cur ≤ limit
lower_end left right out ls rs floor m r rs2 e cur is =
    let o = rw e at m.rs_from in
    rw is (AreOrdered-bounds (end_of (span_from floor r)) rs2 limit o.2)

-- ---- the end

pub record Merged (left right out : List Span) : Type 0 where
  pub same : (x : ℕ) → first_byte out x ≡ layered_byte left right x
  pub ordered : AreOrdered 0 out limit

pub ended_at : (left right out ls rs : List Span) (floor : ℕ) → Merge left right out ls rs floor → (ls ≡ []) ⊎ (rs ≡ [])
    → (mid : List Span) → mid ≡ out ++ ls → (new : List Span) → new ≡ mid ++ spans_from floor rs → Merged left right new
ended_at left right out ls rs floor m done mid mid_is new new_is =
    rw (new_is, mid_is)
    (record {
      same = λ x. rw (first_byte-append (out ++ ls) (spans_from floor rs) x, first_byte-append out ls x, option_or-assoc (first_byte out x) (first_byte ls x) (first_byte (spans_from floor rs) x)) (m.same x);
      ordered = elim done [
        | inl a ↦ let rest : AreOrdered m.place (ls ++ spans_from floor rs) limit = rw a m.rs_from in rw (append_assoc out ls (spans_from floor rs)) (AreOrdered-append 0 m.place limit out (ls ++ spans_from floor rs) m.out_to rest)
        | inr a ↦ rw (a, append-nil (out ++ ls)) (AreOrdered-append 0 m.place limit out ls m.out_to m.ls_from)
      ];
    })

pub none_left : (ps : List Patch) (i : ℕ) → length ps ≤ i → spans (drop i ps) ≡ []
none_left ps i h = ap spans (drop_all i ps h)

-- ---- a list of patches in two parts

pub near_take : (n : ℕ) (ps : List Patch) → AreNear (spans ps) → AreNear (spans (take n ps))
near_take n ps near = rw (← take-map span_of n ps) (all_take IsNear n (spans ps) near)

pub near_drop : (n : ℕ) (ps : List Patch) → AreNear (spans ps) → AreNear (spans (drop n ps))
near_drop n ps near = rw (← drop-map span_of n ps) (all_drop IsNear n (spans ps) near)

-- two parts that were gathered, laid over one another
pub gathered_same : (ps earlier later left right upper lower : List Patch) (n : ℕ) → earlier ≡ take n ps → later ≡ drop n ps
    → ((x : ℕ) → first_byte (spans left) x ≡ first_byte (spans earlier) x) → ((x : ℕ) → first_byte (spans right) x ≡ first_byte (spans later) x)
    → upper ≡ left → lower ≡ right → (x : ℕ) → layered_byte (spans upper) (spans lower) x ≡ first_byte (spans ps) x
gathered_same ps earlier later left right upper lower n e f g h u l x =
    rw (u, l, g x, h x, e, f)
    (sym (first_byte-append (spans (take n ps)) (spans (drop n ps)) x) ∙ ap (λ qs. first_byte qs x) (sym (map-append span_of (take n ps) (drop n ps)) ∙ ap spans (take-append-drop n ps)))
