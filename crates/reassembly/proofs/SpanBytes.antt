-- What a span, a part of it, and a list of spans have for a position.
use Rattle.std.proofs.Common.{◌≡◌, ◌<◌, ◌≤◌, inl, inr, ℕ, ◌+◌, ◌-◌, List, [], ◌∷◌, ◌++◌, length, drop, slice_index, Option, Some, None, refl, sym, ap, ◌∙◌, arith, length-take, length-drop, get_or, add-zero}
use Rattle.std.specs.Option.{option_or}
use Rattle.std.proofs.lemmas.Bool.{le-leb, lt-leb, cases_lt}
use Rattle.std.proofs.lemmas.List.{get_or-take, get_or-drop}
use Rattle.std.proofs.lemmas.Option.{slice_get-get_or, slice_get_past}
use Rattle.lists.proofs.Lists.{option_or-assoc}
use Rattle.reassembly.specs.Spans.{Span, TimedByte, end_of, byte_in, first_byte, span_below, span_from, with_bytes, unless_empty, AreOrdered}

abbrev pub inner_byte : Span → ℕ → TimedByte
inner_byte p x = record { value = slice_index p.bytes (x - p.from); at = p.at }

pub byte_in-before : (p : Span) (x : ℕ) → x < p.from → byte_in p x ≡ None
byte_in-before p x h = rw (lt-leb p.from x h) refl

pub byte_in-past : (p : Span) (x : ℕ) → end_of p ≤ x → byte_in p x ≡ None
byte_in-past p x h = rw (le-leb p.from x (omega arith), slice_get_past p.bytes (x - p.from) (omega arith)) refl

pub byte_in-within : (p : Span) (x : ℕ) → p.from ≤ x → x < end_of p → byte_in p x ≡ Some (inner_byte p x)
byte_in-within p x a b = rw (le-leb p.from x a, slice_get-get_or p.bytes (x - p.from) 0 (omega arith)) refl

-- ---- parts of a span

pub front-keeps : (n : ℕ) (p : Span) (x : ℕ) → x < n → byte_in (span_below n p) x ≡ byte_in p x
front-keeps n p x h =
    elim (cases_lt x p.from) [
      | inl a ↦ byte_in-before (span_below n p) x a ∙ sym (byte_in-before p x a)
      | inr a ↦ elim (cases_lt x (end_of p)) [
        | inl b ↦
            byte_in-within (span_below n p) x a (omega (arith, length-take (n - p.from) p.bytes))
            ∙ ap (λ v. Some (let r : TimedByte = record { value = v; at = p.at } in r)) (get_or-take (n - p.from) p.bytes (x - p.from) 0 (omega arith))
            ∙ sym (byte_in-within p x a b)
        | inr b ↦ byte_in-past (span_below n p) x (omega (arith, length-take (n - p.from) p.bytes)) ∙ sym (byte_in-past p x b)
      ]
    ]

pub front-hides : (n : ℕ) (p : Span) (x : ℕ) → n ≤ x → byte_in (span_below n p) x ≡ None
front-hides n p x h =
    elim (cases_lt x p.from) [
      | inl a ↦ byte_in-before (span_below n p) x a
      | inr a ↦ byte_in-past (span_below n p) x (omega (arith, length-take (n - p.from) p.bytes))
    ]

pub back-hides : (n : ℕ) (p : Span) (x : ℕ) → x < n → byte_in (span_from n p) x ≡ None
back-hides n p x h = byte_in-before (span_from n p) x (omega arith)

pub back-keeps : (n : ℕ) (p : Span) (x : ℕ) → n ≤ x → byte_in (span_from n p) x ≡ byte_in p x
back-keeps n p x h =
    elim (cases_lt x p.from) [
      | inl a ↦ byte_in-before (span_from n p) x (omega arith) ∙ sym (byte_in-before p x a)
      | inr a ↦ elim (cases_lt x (end_of p)) [
        | inl b ↦
            let place : n - p.from + (x - (p.from + (n - p.from))) ≡ x - p.from = omega arith in
            byte_in-within (span_from n p) x (omega arith) (omega (arith, length-drop (n - p.from) p.bytes))
            ∙ ap (λ v. Some (let r : TimedByte = record { value = v; at = p.at } in r)) (get_or-drop (n - p.from) p.bytes (x - (p.from + (n - p.from))) 0 ∙ ap (λ k. get_or p.bytes k 0) place)
            ∙ sym (byte_in-within p x a b)
        | inr b ↦ byte_in-past (span_from n p) x (omega (arith, length-drop (n - p.from) p.bytes)) ∙ sym (byte_in-past p x b)
      ]
    ]

-- a span that begins at n or later
pub back-all : (n : ℕ) (p : Span) → n ≤ p.from → span_from n p ≡ p
back-all n p h =
    let none : n - p.from ≡ 0 = omega arith in
    ap (λ k. let r : Span = record { from = p.from + k; at = p.at; bytes = drop k p.bytes } in r) none
    ∙ ap (λ k. let r : Span = record { from = k; at = p.at; bytes = p.bytes } in r) (add-zero p.from)

-- ---- lists of spans

pub or-none : (a : Option TimedByte) → option_or a None ≡ a
or-none None = refl
or-none (Some v) = refl

pub first_byte-append : (ps qs : List Span) (x : ℕ) → first_byte (ps ++ qs) x ≡ option_or (first_byte ps x) (first_byte qs x)
first_byte-append [] qs x = refl
first_byte-append (p ∷ ps) qs x =
    ap (λ o. option_or (byte_in p x) o) (first_byte-append ps qs x) ∙ sym (option_or-assoc (byte_in p x) (first_byte ps x) (first_byte qs x))

pub first_byte-one : (p : Span) (x : ℕ) → first_byte (p ∷ []) x ≡ byte_in p x
first_byte-one p x = or-none (byte_in p x)

empty_is : (p : Span) (bytes : List ℕ) (x : ℕ) → p.bytes ≡ bytes → first_byte (with_bytes p bytes) x ≡ byte_in p x
empty_is p [] x e = sym (elim (cases_lt x p.from) [ inl a ↦ byte_in-before p x a | inr a ↦ byte_in-past p x (let len : length p.bytes ≡ 0 = ap length e in omega arith) ])
empty_is p (b ∷ bytes) x e = first_byte-one p x

pub first_byte-unless_empty : (p : Span) (x : ℕ) → first_byte (unless_empty p) x ≡ byte_in p x
first_byte-unless_empty p x = empty_is p p.bytes x refl

-- ---- order

pub AreOrdered-bounds : (low : ℕ) (ps : List Span) (high : ℕ) → AreOrdered low ps high → low ≤ high
AreOrdered-bounds low [] high o = o
AreOrdered-bounds low (p ∷ ps) high o = let h : end_of p ≤ high = AreOrdered-bounds (end_of p) ps high o.2 in omega arith

pub ordered_up : (low : ℕ) (ps : List Span) (high high' : ℕ) → AreOrdered low ps high → high ≤ high' → AreOrdered low ps high'
ordered_up low [] high high' o h = omega arith
ordered_up low (p ∷ ps) high high' o h = (o.0, o.1, ordered_up (end_of p) ps high high' o.2 h)

pub AreOrdered-down : (low low' : ℕ) (ps : List Span) (high : ℕ) → AreOrdered low ps high → low' ≤ low → AreOrdered low' ps high
AreOrdered-down low low' [] high o h = omega arith
AreOrdered-down low low' (p ∷ ps) high o h = let a : low ≤ p.from = o.0 in (omega arith, o.1, o.2)

pub AreOrdered-append : (low mid high : ℕ) (ps qs : List Span) → AreOrdered low ps mid → AreOrdered mid qs high → AreOrdered low (ps ++ qs) high
AreOrdered-append low mid high [] qs o r = AreOrdered-down mid low qs high r o
AreOrdered-append low mid high (p ∷ ps) qs o r = (o.0, o.1, AreOrdered-append (end_of p) mid high ps qs o.2 r)

ordered_unless_empty : (low high : ℕ) (p : Span) (bytes : List ℕ) → p.bytes ≡ bytes → low ≤ high → low ≤ p.from → (0 < length p.bytes → end_of p ≤ high) → AreOrdered low (with_bytes p bytes) high
ordered_unless_empty low high p [] e h a c = h
ordered_unless_empty low high p (b ∷ bytes) e h a c =
    let len : length p.bytes ≡ length (b ∷ bytes) = ap length e in
    let some : 0 < length p.bytes = omega arith in
    (a, some, c some)

pub AreOrdered-unless_empty : (low high : ℕ) (p : Span) → low ≤ high → low ≤ p.from → (0 < length p.bytes → end_of p ≤ high) → AreOrdered low (unless_empty p) high
AreOrdered-unless_empty low high p h a c = ordered_unless_empty low high p p.bytes refl h a c

-- an ordered list has nothing before its beginning, and nothing after its end
pub first_byte-before : (low : ℕ) (ps : List Span) (high x : ℕ) → AreOrdered low ps high → x < low → first_byte ps x ≡ None
first_byte-before low [] high x o h = refl
first_byte-before low (p ∷ ps) high x o h =
    let a : low ≤ p.from = o.0 in
    rw (byte_in-before p x (omega arith)) (first_byte-before (end_of p) ps high x o.2 (omega arith))

pub first_byte-past : (low : ℕ) (ps : List Span) (high x : ℕ) → AreOrdered low ps high → high ≤ x → first_byte ps x ≡ None
first_byte-past low [] high x o h = refl
first_byte-past low (p ∷ ps) high x o h =
    let a : end_of p ≤ high = AreOrdered-bounds (end_of p) ps high o.2 in
    rw (byte_in-past p x (omega arith)) (first_byte-past (end_of p) ps high x o.2 h)
