-- Spans in another order: if none overlap, each position has the same byte in every order.
use Rattle.std.proofs.Common.{◌≡◌, ◌<◌, ◌⊎◌, inl, inr, ℕ, List, [], ◌∷◌, Option, Some, None, refl, sym, ◌∙◌, subst, IsPermutation}
use Rattle.std.specs.List.{AllByRecursion}
use Rattle.std.specs.Option.{option_or}
use Rattle.std.proofs.ByRecursion.{all_shuffled}
use Rattle.std.proofs.lemmas.Bool.{cases_lt}
use Rattle.std.proofs.lemmas.List.Sorted.{IsPermutation-map, IsPermutation-sym}
use Rattle.reassembly.specs.declared.patches.Patch.{Patch}
use Rattle.reassembly.specs.Spans.{Span, TimedByte, limit, end_of, byte_in, first_byte, AreOrdered, IsNear, AreNear, span_of, spans}
use Rattle.reassembly.proofs.SpanBytes.{byte_in-past, first_byte-before}

module _ (x : ℕ) where
  abbrev Misses : Span → Type 0
  Misses p = byte_in p x ≡ None

  -- a span that covers the position has this byte there
  abbrev Agrees : Option TimedByte → Span → Type 0
  Agrees byte p = Misses p ⊎ (byte_in p x ≡ byte)

  none_of : (ps : List Span) → AllByRecursion Misses ps → first_byte ps x ≡ None
  none_of [] all = refl
  none_of (p ∷ ps) all = rw all.0 (none_of ps all.1)

  all_miss : (ps : List Span) → first_byte ps x ≡ None → AllByRecursion Misses ps
  all_miss [] e = tt
  all_miss (p ∷ ps) e = by (byte_in p x) refl e (all_miss ps)
    where
      by : (o : Option TimedByte) → byte_in p x ≡ o → option_or o (first_byte ps x) ≡ None → (first_byte ps x ≡ None → AllByRecursion Misses ps) → AllByRecursion Misses (p ∷ ps)
      by None o e rest = (o, rest e)
      by (Some b) o e rest = absurd cc

  miss_before : (low : ℕ) (ps : List Span) (high : ℕ) → AreOrdered low ps high → x < low → AllByRecursion Misses ps
  miss_before low ps high o h = all_miss ps (first_byte-before low ps high x o h)

  agree_missing : (byte : Option TimedByte) (ps : List Span) → AllByRecursion Misses ps → AllByRecursion (Agrees byte) ps
  agree_missing byte [] all = tt
  agree_missing byte (p ∷ ps) all = (inl all.0, agree_missing byte ps all.1)

  -- all spans of an ordered list agree with what it has
  agree_ordered : (low : ℕ) (ps : List Span) (high : ℕ) → AreOrdered low ps high → AllByRecursion (Agrees (first_byte ps x)) ps
  agree_ordered low [] high o = tt
  agree_ordered low (p ∷ ps) high o =
      elim (cases_lt x (end_of p)) [
        | inl a ↦ by (byte_in p x) refl (miss_before (end_of p) ps high o.2 a)
        | inr a ↦
            let none : Misses p = byte_in-past p x a in
            let same : first_byte (p ∷ ps) x ≡ first_byte ps x = rw none refl in
            (inl none, subst (λ byte. AllByRecursion (Agrees byte) ps) (sym same) (agree_ordered (end_of p) ps high o.2))
      ]
    where
      by : (b : Option TimedByte) → byte_in p x ≡ b → AllByRecursion Misses ps → AllByRecursion (Agrees (first_byte (p ∷ ps) x)) (p ∷ ps)
      by None e all = (inl e, agree_missing (first_byte (p ∷ ps) x) ps all)
      by (Some b) e all = (inr (rw e refl), agree_missing (first_byte (p ∷ ps) x) ps all)

  agreed : (byte : Option TimedByte) (ps : List Span) → AllByRecursion (Agrees byte) ps → (first_byte ps x ≡ None) ⊎ (first_byte ps x ≡ byte)
  agreed byte [] all = inl refl
  agreed byte (p ∷ ps) all = by (byte_in p x) refl all.0 (agreed byte ps all.1)
    where
      by : (o : Option TimedByte) → byte_in p x ≡ o → Agrees byte p → (first_byte ps x ≡ None) ⊎ (first_byte ps x ≡ byte) → (option_or (byte_in p x) (first_byte ps x) ≡ None) ⊎ (option_or (byte_in p x) (first_byte ps x) ≡ byte)
      by None e one rest = rw e rest
      by (Some b) e one rest = elim one [ inl none ↦ absurd cc | inr same ↦ inr (rw e (sym e ∙ same)) ]

  same_reordered : (ps qs : List Span) (high : ℕ) → IsPermutation ps qs → AreOrdered 0 qs high → first_byte qs x ≡ first_byte ps x
  same_reordered ps qs high moved o =
      elim (agreed (first_byte qs x) ps (all_shuffled (Agrees (first_byte qs x)) qs ps (IsPermutation-sym ps qs moved) (agree_ordered 0 qs high o))) [
        | inl none ↦ none_of qs (all_shuffled Misses ps qs moved (all_miss ps none)) ∙ sym none
        | inr same ↦ sym same
      ]

pub reordered_same : (ps qs : List Patch) → IsPermutation ps qs → AreOrdered 0 (spans qs) limit → (x : ℕ) → first_byte (spans qs) x ≡ first_byte (spans ps) x
reordered_same ps qs moved o x = same_reordered x (spans ps) (spans qs) limit (IsPermutation-map span_of ps qs moved) o

pub near_reordered : (ps qs : List Patch) → IsPermutation ps qs → AreNear (spans ps) → AreNear (spans qs)
near_reordered ps qs moved near = all_shuffled IsNear (spans ps) (spans qs) (IsPermutation-map span_of ps qs moved) near
