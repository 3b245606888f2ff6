-- Going over an ordered list of spans up to the first gap: what each turn keeps.
use Rattle.std.proofs.Common.{◌≡◌, ◌<◌, ◌≤◌, inl, inr, ℕ, zero, suc, ◌+◌, ◌-◌, ◌==◌, ◌||◌, not, max, List, [], ◌∷◌, ◌++◌, map, length, slice_index, Option, Some, None, Bool, true, false, refl, sym, ap, ◌∙◌, arith, length-take, add-zero, zero-add}
use Rattle.std.specs.Option.{option_or, is_some}
use Rattle.std.specs.List.{range_with_len}
use Rattle.std.proofs.lemmas.Bool.{cases_lt, eq-eqb, ne_eqb}
use Rattle.std.proofs.lemmas.List.{get_or-take, map-append}
use Rattle.std.proofs.lemmas.List.FromFn.{map-range_with_len_more}
use Rattle.pcap_records.specs.Instants.{greatest}
use Rattle.reassembly.specs.RecordedLines.{LineByte}
use Rattle.reassembly.specs.LineView.{bytes_with_mark}
use Rattle.reassembly.specs.Spans.{Span, TimedByte, limit, end_of, first_byte, span_below, AreOrdered}
use Rattle.reassembly.specs.SideLines.{value_of, instant_of, latest_below, line_byte, line_bytes, IsFront, first_from}
use Rattle.reassembly.proofs.LineBytes.{unmarked}
use Rattle.reassembly.proofs.SpanBytes.{byte_in-past, byte_in-within, AreOrdered-bounds, AreOrdered-down, first_byte-before}

greatest-last : (xs : List ℕ) (y : ℕ) → greatest (xs ++ y ∷ []) ≡ max (greatest xs) y
greatest-last [] y = omega arith
greatest-last (x ∷ xs) y = ap (max x) (greatest-last xs y) ∙ omega arith

pub latest_below-more : (g : ℕ → Option TimedByte) (x : ℕ) → latest_below g (x + 1) ≡ max (latest_below g x) (instant_of (g x))
latest_below-more g x =
    let f : ℕ → ℕ = λ k. instant_of (g k) in
    ap greatest (map-range_with_len_more f 0 x x (zero-add x)) ∙ greatest-last (map f (range_with_len 0 x)) (f x)

pub range_append : (a n k : ℕ) → range_with_len a (n + k) ≡ range_with_len a n ++ range_with_len (a + n) k
range_append a zero k = rw (zero-add k, add-zero a) refl
range_append a (suc n) k =
    let e : suc n + k ≡ suc (n + k) = omega arith in
    let f : a + 1 + n ≡ a + suc n = omega arith in
    ap (λ m. range_with_len a m) e ∙ ap (λ l. a ∷ l) (range_append (a + 1) n k ∙ ap (λ m. range_with_len (a + 1) n ++ range_with_len m k) f)

-- g has these bytes from position x on, all with one instant
abbrev pub Holds : (ℕ → Option TimedByte) → ℕ → List ℕ → ℕ → Type 0
Holds g x bytes at = (i : ℕ) → i < length bytes → g (x + i) ≡ Some (let r : TimedByte = record { value = slice_index bytes i; at = at } in r)

tail_holds : (g : ℕ → Option TimedByte) (x b : ℕ) (bytes : List ℕ) (at : ℕ) → Holds g x (b ∷ bytes) at → Holds g (x + 1) bytes at
tail_holds g x b bytes at holds i h =
    let e : x + 1 + i ≡ x + suc i = omega arith in
    ap g e ∙ holds (suc i) (omega arith)

head_holds : (g : ℕ → Option TimedByte) (x b : ℕ) (bytes : List ℕ) (at : ℕ) → Holds g x (b ∷ bytes) at → g x ≡ Some (record { value = b; at = at })
head_holds g x b bytes at holds = ap g (sym (add-zero x)) ∙ holds 0 (omega arith)

line_byte_is : (g : ℕ → Option TimedByte) (x value at now : ℕ) (starts : Bool) → g x ≡ Some (record { value = value; at = at }) → latest_below g (x + 1) ≡ now
    → (x == 0 || not (now == latest_below g x)) ≡ starts → line_byte g x ≡ record { value = value; at = now; starts = starts }
line_byte_is g x value at now starts is after start =
    ap (λ o. let r : LineByte = record { value = value_of o; at = latest_below g (x + 1); starts = x == 0 || not (latest_below g (x + 1) == latest_below g x) } in r) is
    ∙ ap (λ p. let r : LineByte = record { value = value; at = p; starts = x == 0 || not (p == latest_below g x) } in r) after
    ∙ ap (λ s. let r : LineByte = record { value = value; at = now; starts = s } in r) start

-- a chunk starts with the first of these bytes if the greatest instant changes, and with no other
pub record Joins (g : ℕ → Option TimedByte) (x : ℕ) (bytes : List ℕ) (now : ℕ) (starts : Bool) : Type 0 where
  pub bytes_are : map (line_byte g) (range_with_len x (length bytes)) ≡ bytes_with_mark now starts bytes
  pub latest_is : latest_below g (x + length bytes) ≡ now

joins : (g : ℕ → Option TimedByte) (bytes : List ℕ) (x at carry now : ℕ) (starts : Bool) → Holds g x bytes at → latest_below g x ≡ carry → now ≡ max carry at
    → starts ≡ (x == 0 || not (now == carry)) → (length bytes ≡ 0 → carry ≡ now) → Joins g x bytes now starts
joins g [] x at carry now starts holds is max_is start none = record { bytes_are = refl; latest_is = ap (latest_below g) (add-zero x) ∙ is ∙ none refl }
joins g (b ∷ bytes) x at carry now starts holds is max_is start none =
    let first = head_holds g x b bytes at holds in
    let after : latest_below g (x + 1) ≡ now = latest_below-more g x ∙ ap (λ o. max (latest_below g x) (instant_of o)) first ∙ ap (λ k. max k at) is ∙ sym max_is in
    let start' : (x == 0 || not (now == latest_below g x)) ≡ starts = ap (λ k. x == 0 || not (now == k)) is ∙ sym start in
    let stays : (x + 1 == 0 || not (now == now)) ≡ false = rw (ne_eqb (x + 1) 0 (λ e. omega arith), eq-eqb now now refl) refl in
    let rest = joins g bytes (x + 1) at now now false (tail_holds g x b bytes at holds) after (omega arith) (sym stays) (λ e. refl) in
    let e : x + 1 + length bytes ≡ x + suc (length bytes) = omega arith in
    record {
      bytes_are =
          ap (λ c. c ∷ map (line_byte g) (range_with_len (x + 1) (length bytes))) (line_byte_is g x b at now starts first after start')
          ∙ ap (λ l. record { value = b; at = now; starts = starts } ∷ l) (rest.bytes_are ∙ sym (unmarked now bytes));
      latest_is = ap (latest_below g) (sym e) ∙ rest.latest_is;
    }

-- ---- the walk

pub record Walk (g : ℕ → Option TimedByte) (stop n latest : ℕ) (out : List LineByte) (rest : List Span) : Type 0 where
  pub out_is : out ≡ line_bytes g n
  pub latest_is : latest_below g n ≡ latest
  pub covered : (x : ℕ) → x < n → is_some (g x) ≡ true
  pub within : n ≤ stop
  pub rest_is : (x : ℕ) → n ≤ x → x < stop → g x ≡ first_byte rest x
  pub rest_from : AreOrdered n rest limit

pub walk_begin : (g : ℕ → Option TimedByte) (stop latest : ℕ) (out : List LineByte) (rest : List Span) → AreOrdered 0 rest limit → ((x : ℕ) → g x ≡ first_byte rest x)
    → latest ≡ 0 → out ≡ [] → Walk g stop 0 latest out rest
walk_begin g stop latest out rest o e a b = record {
  out_is = b;
  latest_is = sym a;
  covered = λ x h. absurd (omega arith);
  within = omega arith;
  rest_is = λ x a b. e x;
  rest_from = o;
}

part_holds : (g : ℕ → Option TimedByte) (stop n latest : ℕ) (out : List LineByte) (p : Span) (ps : List Span) → Walk g stop n latest out (p ∷ ps) → p.from ≡ n → n < stop
    → Holds g n (span_below stop p).bytes p.at
part_holds g stop n latest out p ps w at_n before i h =
    let len = length-take (stop - p.from) p.bytes in
    let e : n + i - p.from ≡ i = omega arith in
    w.rest_is (n + i) (omega arith) (omega arith)
    ∙ ap (λ o. option_or o (first_byte ps (n + i))) (byte_in-within p (n + i) (omega arith) (omega arith))
    ∙ ap (λ k. Some (let r : TimedByte = record { value = slice_index p.bytes k; at = p.at } in r)) e
    ∙ ap (λ v. Some (let r : TimedByte = record { value = v; at = p.at } in r)) (sym (get_or-take (stop - p.from) p.bytes i 0 (omega arith)))

pub walk_at : (g : ℕ → Option TimedByte) (stop n latest : ℕ) (out : List LineByte) (rest : List Span) → Walk g stop n latest out rest
    → (p : Span) (ps : List Span) → rest ≡ p ∷ ps → (from : ℕ) → from ≡ first_from rest → from ≤ n → n < stop
    → (part : Span) → part ≡ span_below stop p → (now : ℕ) → now ≡ max latest part.at → (starts : Bool) → starts ≡ (n == 0 || not (now == latest))
    → (len : ℕ) → len ≡ end_of part → (new : List LineByte) → new ≡ out ++ bytes_with_mark now starts part.bytes
    → Walk g stop len now new ps
walk_at g stop n latest out rest old p ps e from is at_n before part part_is now now_is starts starts_is len len_is new new_is =
    let w = rw e at old in
    let is' = rw e at is in
    let now_is' = rw part_is at now_is in
    let o = w.rest_from in
    let from_n : p.from ≡ n = omega (arith, is', at_n, o.0) in
    let cut : Span = span_below stop p in
    let cut_len = length-take (stop - p.from) p.bytes in
    let some : 0 < length p.bytes = o.1 in
    let holds = part_holds g stop n latest out p ps w from_n before in
    let join = joins g cut.bytes n p.at latest now starts holds w.latest_is now_is' starts_is (λ e. absurd (omega arith)) in
    let ends : end_of cut ≡ n + length cut.bytes = omega arith in
    let stays : end_of cut ≤ end_of p = omega arith in
    rw (new_is, len_is, part_is)
    (record {
      out_is =
          ap (λ l. l ++ bytes_with_mark now starts cut.bytes) w.out_is ∙ ap (λ l. line_bytes g n ++ l) (sym join.bytes_are)
          ∙ sym (map-append (line_byte g) (range_with_len 0 n) (range_with_len n (length cut.bytes)))
          ∙ ap (λ k. map (line_byte g) (range_with_len 0 n ++ range_with_len k (length cut.bytes))) (sym (zero-add n))
          ∙ ap (map (line_byte g)) (sym (range_append 0 n (length cut.bytes)))
          ∙ ap (line_bytes g) (sym ends);
      latest_is = ap (latest_below g) ends ∙ join.latest_is;
      covered = λ x h. elim (cases_lt x n) [
        | inl a ↦ w.covered x a
        | inr a ↦ let e : n + (x - n) ≡ x = omega arith in ap (λ k. is_some (g k)) (sym e) ∙ ap is_some (holds (x - n) (omega arith))
      ];
      within = omega arith;
      rest_is = λ x a b. w.rest_is x (omega arith) b ∙ ap (λ q. option_or q (first_byte ps x)) (byte_in-past p x (omega arith));
      rest_from = AreOrdered-down (end_of p) (end_of cut) ps limit o.2 stays;
    })

-- ---- where the walk ends

pub walk_ends : (g : ℕ → Option TimedByte) (stop n latest : ℕ) (out : List LineByte) (rest : List Span) → Walk g stop n latest out rest
    → (n < stop → first_byte rest n ≡ None) → IsFront g stop n
walk_ends g stop n latest out rest w gap = record {
  covered = w.covered;
  within = w.within;
  ends = elim (cases_lt n stop) [
    | inl a ↦ inr (w.rest_is n (omega arith) a ∙ gap a)
    | inr a ↦ let h : n ≤ stop = w.within in inl (omega arith)
  ];
}

pub no_rest : (rest : List Span) (n : ℕ) → rest ≡ [] → first_byte rest n ≡ None
no_rest rest n e = rw e refl

pub gap_next : (rest : List Span) (n from : ℕ) → AreOrdered n rest limit → from ≡ first_from rest → (from ≡ n → ⊥) → first_byte rest n ≡ None
gap_next [] n from o is h = refl
gap_next (p ∷ ps) n from o is h =
    let a : n ≤ p.from = o.0 in
    let e : from ≡ p.from = is in
    let strict : n < p.from = elim (cases_lt n p.from) [ inl b ↦ b | inr b ↦ absurd (h (omega arith)) ] in
    first_byte-before p.from (p ∷ ps) limit n (omega arith, o.1, o.2) strict

pub part_near : (g : ℕ → Option TimedByte) (stop n latest : ℕ) (out : List LineByte) (rest : List Span) → Walk g stop n latest out rest
    → (p : Span) (ps : List Span) → rest ≡ p ∷ ps → (part : Span) → part ≡ span_below stop p → end_of part ≤ limit
part_near g stop n latest out rest w p ps e part is =
    let o = rw e at w.rest_from in
    let h : end_of p ≤ limit = AreOrdered-bounds (end_of p) ps limit o.2 in
    rw is (omega (arith, length-take (stop - p.from) p.bytes))
