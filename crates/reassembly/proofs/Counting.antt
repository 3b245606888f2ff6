-- How many positions an ordered list of spans covers.
use Rattle.std.proofs.Common.{◌≡◌, ◌<◌, ◌≤◌, ℕ, zero, suc, ◌+◌, ◌-◌, Bool, true, false, cond, List, [], ◌∷◌, length, Option, None, refl, sym, ap, ◌∙◌, arith, zero-add}
use Rattle.std.specs.Option.{option_or, is_some}
use Rattle.std.specs.List.{range_with_len, count_by, sum_by}
use Rattle.std.proofs.lemmas.List.Sums.{sum_by-cons, sum_by-append}
use Rattle.reassembly.specs.Spans.{Span, TimedByte, limit, end_of, first_byte, AreOrdered}
use Rattle.reassembly.specs.SideLines.{has_byte, IsFront, len_of}
use Rattle.reassembly.proofs.SpanBytes.{byte_in-past, byte_in-within, first_byte-before, first_byte-past, AreOrdered-bounds, AreOrdered-down, ordered_up}
use Rattle.reassembly.proofs.Walks.{range_append}

-- ---- the sum of the lengths

pub count_fits : (count : ℕ) (ps : List Span) (p : Span) (qs : List Span) → AreOrdered count ps limit → ps ≡ p ∷ qs → count + length p.bytes ≤ limit
count_fits count ps p qs o e =
    let o' = rw e at o in
    let a : count ≤ p.from = o'.0 in
    let b : end_of p ≤ limit = AreOrdered-bounds (end_of p) qs limit o'.2 in
    omega arith

pub count_more : (count : ℕ) (ps : List Span) (p : Span) (qs : List Span) → AreOrdered count ps limit → ps ≡ p ∷ qs → AreOrdered (count + length p.bytes) qs limit
count_more count ps p qs o e =
    let o' = rw e at o in
    let a : count ≤ p.from = o'.0 in
    AreOrdered-down (end_of p) (count + length p.bytes) qs limit o'.2 (omega arith)

pub total_more : (count total : ℕ) (ps : List Span) (p : Span) (qs : List Span) → count + sum_by len_of ps ≡ total → ps ≡ p ∷ qs → count + length p.bytes + sum_by len_of qs ≡ total
total_more count total ps p qs t e =
    let t' = rw e at t in
    let s = sum_by-cons len_of p qs in
    omega (arith, s, t')

-- ---- positions that pass a test

abbrev one : Bool → ℕ
one b = cond b 1 0

count_by-cons : (p : ℕ → Bool) (x : ℕ) (xs : List ℕ) → count_by p (x ∷ xs) ≡ one (p x) + count_by p xs
count_by-cons p x xs = sum_by-cons (λ y. one (p y)) x xs

count_split : (p : ℕ → Bool) (a n k : ℕ) → count_by p (range_with_len a (n + k)) ≡ count_by p (range_with_len a n) + count_by p (range_with_len (a + n) k)
count_split p a n k = ap (count_by p) (range_append a n k) ∙ sum_by-append (λ y. one (p y)) (range_with_len a n) (range_with_len (a + n) k)

count_none : (p : ℕ → Bool) (a k : ℕ) → ((x : ℕ) → a ≤ x → x < a + k → p x ≡ false) → count_by p (range_with_len a k) ≡ 0
count_none p a zero h = refl
count_none p a (suc k) h =
    let first : one (p a) ≡ 0 = ap one (h a (omega arith) (omega arith)) in
    let rest : count_by p (range_with_len (a + 1) k) ≡ 0 = count_none p (a + 1) k (λ x b c. h x (omega arith) (omega arith)) in
    omega (arith, count_by-cons p a (range_with_len (a + 1) k), first, rest)

count_all : (p : ℕ → Bool) (a k : ℕ) → ((x : ℕ) → a ≤ x → x < a + k → p x ≡ true) → count_by p (range_with_len a k) ≡ k
count_all p a zero h = refl
count_all p a (suc k) h =
    let first : one (p a) ≡ 1 = ap one (h a (omega arith) (omega arith)) in
    let rest : count_by p (range_with_len (a + 1) k) ≡ k = count_all p (a + 1) k (λ x b c. h x (omega arith) (omega arith)) in
    omega (arith, count_by-cons p a (range_with_len (a + 1) k), first, rest)

-- ---- those that spans cover

count_is : (g : ℕ → Option TimedByte) (ps : List Span) (low k : ℕ) → AreOrdered low ps (low + k) → ((x : ℕ) → low ≤ x → g x ≡ first_byte ps x)
    → count_by (has_byte g) (range_with_len low k) ≡ sum_by len_of ps
count_is g [] low k o e = count_none (has_byte g) low k (λ x a b. ap is_some (e x a))
count_is g (p ∷ ps) low k o e =
    let a : low ≤ p.from = o.0 in
    let some : 0 < length p.bytes = o.1 in
    let b : end_of p ≤ low + k = AreOrdered-bounds (end_of p) ps (low + k) o.2 in
    let gap : ℕ = p.from - low in
    let rest : ℕ = low + k - end_of p in
    let len : ℕ = length p.bytes in
    let to_from : low + gap ≡ p.from = omega arith in
    let all : gap + (len + rest) ≡ k = omega arith in
    let high : low + k ≡ end_of p + rest = omega arith in
    let whole : count_by (has_byte g) (range_with_len low k) ≡ count_by (has_byte g) (range_with_len low gap) + count_by (has_byte g) (range_with_len p.from (len + rest)) =
    ap (λ n. count_by (has_byte g) (range_with_len low n)) (sym all) ∙ count_split (has_byte g) low gap (len + rest) ∙ ap (λ n. count_by (has_byte g) (range_with_len low gap) + count_by (has_byte g) (range_with_len n (len + rest))) to_from in
    let none : count_by (has_byte g) (range_with_len low gap) ≡ 0 =
    count_none (has_byte g) low gap (λ x c d. ap is_some (e x c ∙ first_byte-before p.from (p ∷ ps) (low + k) x (omega arith, some, o.2) (omega arith))) in
    let full : count_by (has_byte g) (range_with_len p.from len) ≡ len =
    count_all (has_byte g) p.from len (λ x c d. ap is_some (e x (omega arith) ∙ ap (λ q. option_or q (first_byte ps x)) (byte_in-within p x c d))) in
    let tail : count_by (has_byte g) (range_with_len (end_of p) rest) ≡ sum_by len_of ps =
    count_is g ps (end_of p) rest (rw high at o.2) (λ x c. e x (omega arith) ∙ ap (λ q. option_or q (first_byte ps x)) (byte_in-past p x c)) in
    omega (arith, whole, none, count_split (has_byte g) p.from len rest, full, tail, sum_by-cons len_of p ps)

-- ordered spans have the first n positions, all covered, and the covered ones from n on
pub total_is : (ps : List Span) (high n end : ℕ) → AreOrdered 0 ps high → ((x : ℕ) → x < n → has_byte (first_byte ps) x ≡ true) → n ≤ end → ((x : ℕ) → end ≤ x → first_byte ps x ≡ None)
    → sum_by len_of ps ≡ n + count_by (has_byte (first_byte ps)) (range_with_len n (end - n))
total_is ps high n end o front within none =
    let g : ℕ → Option TimedByte = first_byte ps in
    let past : ℕ = end - n in
    let whole = count_is g ps 0 (n + (past + high)) (ordered_up 0 ps high (0 + (n + (past + high))) o (omega arith)) (λ x a. refl) in
    let first = count_all (has_byte g) 0 n (λ x a b. front x (omega arith)) in
    let last = count_none (has_byte g) (n + past) high (λ x a b. ap is_some (none x (omega arith))) in
    let split = rw zero-add at (count_split (has_byte g) 0 n (past + high)) in
    omega (arith, whole, first, last, split, count_split (has_byte g) n past high)

-- a front is not longer than all spans together
pub front_within : (ps : List Span) (stop n : ℕ) → AreOrdered 0 ps limit → IsFront (first_byte ps) stop n → n ≤ sum_by len_of ps
front_within ps stop n o f = omega (arith, total_is ps limit n (n + limit) o f.covered (omega arith) (λ x a. first_byte-past 0 ps limit x o (omega arith)))
