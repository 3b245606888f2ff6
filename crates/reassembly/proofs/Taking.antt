-- Putting a patch among the others: what the two lists of a pass keep.
use Rattle.std.proofs.Common.{◌≡◌, ◌<◌, ◌≤◌, ◌⊎◌, inl, inr, ℕ, ◌-◌, max, nat_lt, List, [], ◌∷◌, ◌++◌, length, Option, Some, None, true, refl, sym, ap, ◌∙◌, arith, length-take, length-drop, if◌then◌else◌}
use Rattle.std.specs.Option.{option_or, is_some}
use Rattle.std.proofs.lemmas.Bool.{cases_lt, lt-ltb, le-ltb}
use Rattle.lists.proofs.Lists.{option_or-assoc, all_append}
use Rattle.reassembly.specs.Spans.{Span, TimedByte, limit, end_of, byte_in, first_byte, layered_byte, span_below, span_from, with_bytes, unless_empty, IsNear, AreNear, Taken}
use Rattle.reassembly.proofs.SpanBytes.{inner_byte, byte_in-before, byte_in-within, front-keeps, front-hides, back-keeps, back-hides, or-none, first_byte-append, first_byte-unless_empty, first_byte-past, AreOrdered-append, AreOrdered-unless_empty}

-- what is set aside: the front of a patch that begins before the run, else nothing
abbrev pub SetAside : List Span → List Span → Span → ℕ → ℕ → Type 0
SetAside late late' p since high = ((p.from < since) × (late' ≡ late ++ unless_empty (span_below high p))) ⊎ ((since ≤ p.from) × (late' ≡ late))

pub set_aside : (late late' kept : List Span) (p part : Span) (since high : ℕ) → p.from < since → late' ≡ kept → kept ≡ late ++ unless_empty part → part ≡ span_below high p → SetAside late late' p since high
set_aside late late' kept p part since high a b c d = inl (a, b ∙ c ∙ ap (λ q. late ++ unless_empty q) d)

near_with_bytes : (p : Span) (bytes : List ℕ) → p.bytes ≡ bytes → end_of p ≤ limit → AreNear (with_bytes p bytes)
near_with_bytes p [] e h = tt
near_with_bytes p (b ∷ bytes) e h = let len : length p.bytes ≡ length (b ∷ bytes) = ap length e in ((omega arith, h), tt)

-- ---- positions

covered : (w l q : Option TimedByte) → is_some w ≡ true → option_or (option_or w None) l ≡ option_or (option_or w l) q
covered None l q h = absurd cc
covered (Some v) l q h = refl

some_left : (w b : Option TimedByte) → is_some w ≡ true → is_some (option_or w b) ≡ true
some_left None b h = absurd cc
some_left (Some v) b h = refl

some_right : (w b : Option TimedByte) (v : TimedByte) → b ≡ Some v → is_some (option_or w b) ≡ true
some_right None b v h = ap is_some h
some_right (Some u) b v h = refl

whole_byte : (whole : List Span) (p : Span) (high x : ℕ) → first_byte (whole ++ unless_empty (span_from high p)) x ≡ option_or (first_byte whole x) (byte_in (span_from high p) x)
whole_byte whole p high x = first_byte-append whole (unless_empty (span_from high p)) x ∙ ap (λ o. option_or (first_byte whole x) o) (first_byte-unless_empty (span_from high p) x)

late_byte : (late : List Span) (p : Span) (high x : ℕ) → first_byte (late ++ unless_empty (span_below high p)) x ≡ option_or (first_byte late x) (byte_in (span_below high p) x)
late_byte late p high x = first_byte-append late (unless_empty (span_below high p)) x ∙ ap (λ o. option_or (first_byte late x) o) (first_byte-unless_empty (span_below high p) x)

module _ (whole late : List Span) (since high : ℕ) (t : Taken whole late since high) (p : Span) where
  same_aside : (x : ℕ) → option_or (first_byte (whole ++ unless_empty (span_from high p)) x) (first_byte (late ++ unless_empty (span_below high p)) x) ≡ option_or (layered_byte whole late x) (byte_in p x)
  same_aside x =
      rw (whole_byte whole p high x, late_byte late p high x)
      (elim (cases_lt x high) [
        | inl a ↦ rw (back-hides high p x a, front-keeps high p x a, or-none (first_byte whole x)) (sym (option_or-assoc (first_byte whole x) (first_byte late x) (byte_in p x)))
        | inr a ↦ rw (back-keeps high p x a, front-hides high p x a, first_byte-past 0 whole high x t.ordered a, t.under x a) (or-none (byte_in p x))
      ])

  same_beside : since ≤ p.from → (x : ℕ) → option_or (first_byte (whole ++ unless_empty (span_from high p)) x) (first_byte late x) ≡ option_or (layered_byte whole late x) (byte_in p x)
  same_beside h x =
      rw (whole_byte whole p high x)
      (elim (cases_lt x high) [
        | inl a ↦ elim (cases_lt x p.from) [
          | inl b ↦ rw (back-hides high p x a, byte_in-before p x b, or-none (first_byte whole x)) (sym (or-none (layered_byte whole late x)))
          | inr b ↦ rw (back-hides high p x a) (covered (first_byte whole x) (first_byte late x) (byte_in p x) (t.full x (omega arith) a))
        ]
        | inr a ↦ rw (back-keeps high p x a, first_byte-past 0 whole high x t.ordered a, t.under x a) (or-none (byte_in p x))
      ])

  pub taken_same : (whole' late' : List Span) → whole' ≡ whole ++ unless_empty (span_from high p) → SetAside late late' p since high → (x : ℕ)
      → layered_byte whole' late' x ≡ option_or (layered_byte whole late x) (byte_in p x)
  taken_same whole' late' e side x =
      elim side [
        | inl a ↦ rw (e, a.1) (same_aside x)
        | inr a ↦ rw (e, a.1) (same_beside a.0 x)
      ]

  near_aside : (late' : List Span) → end_of p ≤ limit → SetAside late late' p since high → AreNear late'
  near_aside late' near side =
      elim side [
        | inl a ↦ let r = t.run in rw a.1 (all_append IsNear late (unless_empty (span_below high p)) t.placed (near_with_bytes (span_below high p) (span_below high p).bytes refl (omega (arith, length-take (high - p.from) p.bytes, a.0))))
        | inr a ↦ rw a.1 t.placed
      ]

  under_aside : (late' : List Span) → SetAside late late' p since high → (x : ℕ) → high ≤ x → first_byte late' x ≡ None
  under_aside late' side x h =
      elim side [
        | inl a ↦ rw (a.1, late_byte late p high x, t.under x h) (front-hides high p x h)
        | inr a ↦ rw a.1 (t.under x h)
      ]

  full_behind : (since' : ℕ) → since' ≡ (if nat_lt high p.from then p.from else since) → (x : ℕ) → since' ≤ x → x < max high (end_of p)
      → is_some (option_or (first_byte whole x) (byte_in (span_from high p) x)) ≡ true
  full_behind since' e x a b =
      elim (cases_lt high p.from) [
        | inl h ↦
            let e' : since' ≡ p.from = rw (lt-ltb high p.from h) at e in
            some_right (first_byte whole x) (byte_in (span_from high p) x) (inner_byte p x) (back-keeps high p x (omega arith) ∙ byte_in-within p x (omega arith) (omega arith))
        | inr h ↦
            let e' : since' ≡ since = rw (le-ltb high p.from h) at e in
            elim (cases_lt x high) [
              | inl g ↦ some_left (first_byte whole x) (byte_in (span_from high p) x) (t.full x (omega arith) g)
              | inr g ↦ some_right (first_byte whole x) (byte_in (span_from high p) x) (inner_byte p x) (back-keeps high p x g ∙ byte_in-within p x (omega arith) (omega arith))
            ]
      ]

  run_behind : (since' : ℕ) → since' ≡ (if nat_lt high p.from then p.from else since) → since' ≤ max high (end_of p)
  run_behind since' e =
      elim (cases_lt high p.from) [
        | inl h ↦ let e' : since' ≡ p.from = rw (lt-ltb high p.from h) at e in omega arith
        | inr h ↦ let e' : since' ≡ since = rw (le-ltb high p.from h) at e in let r = t.run in omega arith
      ]

  pub taken_more : (whole' late' : List Span) (since' high' e : ℕ) → whole' ≡ whole ++ unless_empty (span_from high p) → SetAside late late' p since high → end_of p ≤ limit
      → since' ≡ (if nat_lt high p.from then p.from else since) → e ≡ end_of p → high' ≡ max high e → Taken whole' late' since' high'
  taken_more whole' late' since' high' e w side near since_is e_is high_is =
      let high_to : high' ≡ max high (end_of p) = high_is ∙ ap (max high) e_is in
      let n = t.near in
      record {
        ordered = rw (w, high_to) (AreOrdered-append 0 high (max high (end_of p)) whole (unless_empty (span_from high p)) t.ordered (AreOrdered-unless_empty high (max high (end_of p)) (span_from high p) (omega arith) (omega arith) (λ some. omega (arith, some, length-drop (high - p.from) p.bytes))));
        placed = near_aside late' near side;
        near = omega arith;
        run = let h = run_behind since' since_is in omega arith;
        under = λ x h. under_aside late' side x (omega arith);
        full = λ x a b. rw (w, whole_byte whole p high x) (full_behind since' since_is x a (omega arith));
      }

pub kept_back : (whole whole' : List Span) (part p : Span) (high : ℕ) → whole' ≡ whole ++ unless_empty part → part ≡ span_from high p → whole' ≡ whole ++ unless_empty (span_from high p)
kept_back whole whole' part p high a b = a ∙ ap (λ q. whole ++ unless_empty q) b
