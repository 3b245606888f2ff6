-- Short keys of segments that stand in order of connection, turn and place: sorted, they give these in order of key.
use Rattle.std.proofs.Common.{◌≡◌, ℕ, zero, suc, ◌+◌, ◌<◌, ◌≤◌, ◌⊎◌, Bool, true, false, cond, List, [], ◌∷◌, ◌++◌, length, map, slice_index_or, inl, inr, refl, sym, ap, ap₂, ◌∙◌, subst, arith}
use Rattle.std.specs.Cmp.{IsStrictWeakOrder}
use Rattle.std.specs.List.{All}
use Rattle.std.specs.List.Sorted.{IsNonDecreasing, IsPermutation}
use Rattle.std.proofs.lemmas.Bool.{cases_lt, cases_order, false≢true}
use Rattle.std.proofs.lemmas.Bool.Decides.{nat_tests}
use Rattle.std.proofs.lemmas.List.{get_or-map, get_or_default, get_or_append_left, length-append, length-map, same_lists}
use Rattle.std.proofs.lemmas.List.Elements.{All-from_get_or, All-get_or}
use Rattle.std.proofs.lemmas.List.Sorted.{All-permutation, IsPermutation-map}
use Rattle.std.proofs.lemmas.Simd.{map-map}
use Rattle.std.proofs.Math.Seq.{get_or-append_seam}
use Rattle.segment_writer.specs.KeyLaws.{HasNoKeyTwice, same_key}
use Rattle.segment_writer.specs.OpenRows.{written_in, AreShortKeys}
use Rattle.segment_writer.specs.OrderedLists.{Ordered}
use Rattle.segment_writer.specs.SegmentOutlines.{no_segment}
use Rattle.segment_writer.specs.SegmentRows.{framed_at, segment_key}
use Rattle.segment_writer.specs.ShortKeys.{are_at, key_at, number_in, without_moment, ComesBefore, HasShortKey, HaveShortKeys, IsShortKey}
use Rattle.segment_writer.specs.WrittenSegments.{below, has_lower_key, is_key_below, sorted_by_key}
use Rattle.segment_writer.specs.declared.framed.Framed.{Framed}
use Rattle.segment_writer.specs.declared.framed.SegKey.{SegKey}
use Rattle.segment_writer.specs.declared.open_rows.OpenRow.{OpenRow}
use Rattle.segment_writer.specs.declared.row_segments.RowSegment.{RowSegment}
use Rattle.segment_writer.proofs.InOrder.{below_order, key_order}
use Rattle.segment_writer.proofs.KeyCounts.{key_count, key_count-cons, none_that, same_conn, same_place, same_turn}
use Rattle.segment_writer.proofs.OneOrderLaw.{in_one_order}
use Rattle.segment_writer.proofs.Sorting.{not_below_itself, sorted_ordered}

-- ---- one segment more

comes_on : (a b c : SegKey) → ComesBefore a b → ComesBefore b c → ComesBefore a c
comes_on a b c first next = by (is_key_below (without_moment a) (without_moment c)) refl
  where
    order : IsStrictWeakOrder (has_lower_key (λ (k : SegKey). k))
    order = key_order (λ (k : SegKey). k)

    by : (t : Bool) → is_key_below (without_moment a) (without_moment c) ≡ t → ComesBefore a c
    by true e = e
    by false e = absurd (false≢true (sym (order.chain (without_moment a) (without_moment c) (without_moment b) e (order.one_way (without_moment b) (without_moment c) next)) ∙ first))

pub one_more : (keys : List SegKey) (n : ℕ) (shorts more : List ℕ) (short : ℕ) → HaveShortKeys keys n shorts → IsShortKey keys n short
    → ((i : ℕ) → i + 1 ≡ n → ComesBefore (key_at keys i) (key_at keys n)) → more ≡ shorts ++ short ∷ [] → HaveShortKeys keys (n + 1) more
one_more keys n shorts more short have is step are = record {
  many = ap length are ∙ length-append shorts (short ∷ []) ∙ ap (λ m. m + 1) have.many;
  each = λ i within. subst (λ (xs : List ℕ). IsShortKey keys i (slice_index_or xs i 0)) (sym are) (each i within (cases_lt i n));
  in_turn = λ i j low within. in_turn i j low within (cases_lt j n) (cases_lt (i + 1) n);
}
  where
    each : (i : ℕ) → i < n + 1 → (i < n) ⊎ (n ≤ i) → IsShortKey keys i (slice_index_or (shorts ++ short ∷ []) i 0)
    each i within (inl low) = subst (IsShortKey keys i) (sym (get_or_append_left shorts (short ∷ []) 0 i (omega (arith, have.many, low)))) (have.each i low)
    each i within (inr high) =
        let here : i ≡ n = omega (arith, within, high) in
        subst (IsShortKey keys i) (sym (ap (λ m. slice_index_or (shorts ++ short ∷ []) m 0) (here ∙ sym have.many) ∙ get_or-append_seam shorts short [] 0)) (subst (λ m. IsShortKey keys m short) (sym here) is)

    in_turn : (i j : ℕ) → i < j → j < n + 1 → (j < n) ⊎ (n ≤ j) → (i + 1 < n) ⊎ (n ≤ i + 1) → ComesBefore (key_at keys i) (key_at keys j)
    in_turn i j low within (inl early) last = have.in_turn i j low early
    in_turn i zero low within (inr late) last = absurd (omega (arith, low))
    in_turn i (suc k) low within (inr late) (inl before) =
        let here : k + 1 ≡ n = omega (arith, within, late) in
        subst (λ m. ComesBefore (key_at keys i) (key_at keys m)) (let same : n ≡ suc k = omega (arith, here) in same)
        (comes_on (key_at keys i) (key_at keys k) (key_at keys n) (have.in_turn i k (omega (arith, here, before)) (omega (arith, here))) (step k here))
    in_turn i (suc k) low within (inr late) (inr last) =
        subst (λ m. ComesBefore (key_at keys i) (key_at keys m)) (let same : n ≡ suc k = omega (arith, within, late) in same) (step i (omega (arith, low, within, late, last)))

-- ---- in order

earlier : (a b : SegKey) → a.moment < b.moment → is_key_below b a ≡ false
earlier a b low = grind (arith, nat_tests)

in_turn_there : (a b : SegKey) → a.moment ≡ b.moment → ComesBefore a b → is_key_below b a ≡ false
in_turn_there a b same before = grind (arith, nat_tests)

apart_there : (a b : SegKey) → ComesBefore a b → a.conn ≡ b.conn → a.turn ≡ b.turn → a.place ≡ b.place → ⊥
apart_there a b before conn turn place = grind (arith, nat_tests)

once : (xs : List Framed) → ((i j : ℕ) → i < j → j < length xs → ComesBefore (slice_index_or xs i no_segment).key (slice_index_or xs j no_segment).key) → HasNoKeyTwice xs
once [] in_turn k = omega arith
once (x ∷ xs) in_turn k = by (same_key k x.key) refl (once xs (λ i j low within. in_turn (suc i) (suc j) (omega (arith, low)) (omega (arith, within))) k)
  where
    After : Framed → Type 0
    After y = ComesBefore x.key y.key

    after : All After xs
    after = All-from_get_or After xs no_segment (λ i within. in_turn 0 (suc i) (omega arith) (omega (arith, within)))

    other : same_key k x.key ≡ true → (y : Framed) → After y → same_key k y.key ≡ true → ⊥
    other e y before f = apart_there x.key y.key before (sym (same_conn k x.key e) ∙ same_conn k y.key f) (sym (same_turn k x.key e) ∙ same_turn k y.key f) (sym (same_place k x.key e) ∙ same_place k y.key f)

    by : (b : Bool) → same_key k x.key ≡ b → key_count k xs ≤ 1 → key_count k (x ∷ xs) ≤ 1
    by true e few = omega (arith, key_count-cons k x xs ∙ ap (λ t. cond t 1 0 + key_count k xs) e, none_that k After (other e) xs after)
    by false e few = omega (arith, key_count-cons k x xs ∙ ap (λ t. cond t 1 0 + key_count k xs) e, few)

key_of : (xs : List Framed) (n : ℕ) → key_at (map (λ x. x.key) xs) n ≡ (slice_index_or xs n no_segment).key
key_of [] n = refl
key_of (x ∷ xs) zero = refl
key_of (x ∷ xs) (suc n) = key_of xs n

module _ (keys : List SegKey) (shorts : List ℕ) (have : HaveShortKeys keys (length keys) shorts) where
  among : (i : ℕ) → i < length shorts → HasShortKey keys (slice_index_or shorts i 0)
  among i within =
      let is = have.each i (omega (arith, within, have.many)) in
      record { within = omega (arith, within, have.many, is.number); of = subst (λ n. IsShortKey keys n (slice_index_or shorts i 0)) (sym is.number) is }

  all_among : All (HasShortKey keys) shorts
  all_among = All-from_get_or (HasShortKey keys) shorts 0 among

  rise : (a b : ℕ) → HasShortKey keys a → HasShortKey keys b → a ≤ b → is_key_below (key_at keys (number_in b)) (key_at keys (number_in a)) ≡ false
  rise a b low high le = by (cases_order (key_at keys (number_in a)).moment (key_at keys (number_in b)).moment) (cases_lt (number_in a) (number_in b))
    where
      before : (key_at keys (number_in b)).moment < (key_at keys (number_in a)).moment → ⊥
      before h = omega (arith, low.of.is, high.of.is, low.of.early, high.of.early, le, h)

      numbers : (key_at keys (number_in a)).moment ≡ (key_at keys (number_in b)).moment → number_in a ≤ number_in b
      numbers same = omega (arith, low.of.is, high.of.is, low.of.early, high.of.early, le, same)

      by : ((key_at keys (number_in a)).moment ≡ (key_at keys (number_in b)).moment) ⊎ (((key_at keys (number_in a)).moment < (key_at keys (number_in b)).moment) ⊎ ((key_at keys (number_in b)).moment < (key_at keys (number_in a)).moment))
          → (number_in a < number_in b) ⊎ (number_in b ≤ number_in a) → is_key_below (key_at keys (number_in b)) (key_at keys (number_in a)) ≡ false
      by (inl same) (inl lower) = in_turn_there (key_at keys (number_in a)) (key_at keys (number_in b)) same (have.in_turn (number_in a) (number_in b) lower high.within)
      by (inl same) (inr over) =
          let equal : number_in a ≡ number_in b = omega (arith, numbers same, over) in
          subst (λ n. is_key_below (key_at keys n) (key_at keys (number_in a)) ≡ false) equal (not_below_itself (λ j k. is_key_below j k) (key_order (λ (k : SegKey). k)) (key_at keys (number_in a)))
      by (inr (inl lower)) numbers_are = earlier (key_at keys (number_in a)) (key_at keys (number_in b)) lower
      by (inr (inr higher)) numbers_are = absurd (before higher)

module _ (xs : List Framed) (shorts sorted : List ℕ) (have : HaveShortKeys (map (λ x. x.key) xs) (length xs) shorts) (moved : IsPermutation shorts sorted) where
  abbrev keys : List SegKey
  keys = map (λ x. x.key) xs

  -- the segment of a short key
  abbrev at : ℕ → Framed
  at short = slice_index_or xs (number_in short) no_segment

  many : length keys ≡ length xs
  many = length-map xs (λ x. x.key)

  same : HaveShortKeys keys (length keys) shorts
  same = subst (λ n. HaveShortKeys keys n shorts) (sym many) have

  pub all : All (HasShortKey keys) sorted
  all = All-permutation (HasShortKey keys) shorts sorted moved (all_among keys shorts same)

  shown : map at shorts ≡ xs
  shown = same_lists (map at shorts) xs (length-map shorts at ∙ have.many) (λ i d within.
      let low : i < length xs = omega (arith, within, length-map shorts at, have.many) in
      get_or-map at shorts i 0 d (omega (arith, low, have.many)) ∙ ap (λ n. slice_index_or xs n no_segment) (have.each i low).number ∙ get_or_default xs i no_segment d low)

  never_falls : IsNonDecreasing sorted → Ordered below (map at sorted)
  never_falls rises = sorted_ordered below below_order (map at sorted) (λ k d low within.
      let inside : k + 1 < length sorted = omega (arith, within, length-map sorted at) in
      let a = slice_index_or sorted k 0 in
      let b = slice_index_or sorted (k + 1) 0 in
      ap₂ (λ x y. below x y) (get_or-map at sorted (k + 1) 0 d inside) (get_or-map at sorted k 0 d (omega (arith, inside)))
      ∙ ap₂ is_key_below (sym (key_of xs (number_in b))) (sym (key_of xs (number_in a)))
      ∙ rise keys shorts same a b (All-get_or (HasShortKey keys) sorted k 0 (omega (arith, inside)) all) (All-get_or (HasShortKey keys) sorted (k + 1) 0 inside all) (rises k (k + 1) 0 (omega arith) inside))

  pub in_order : IsNonDecreasing sorted → are_at xs sorted ≡ sorted_by_key xs
  in_order rises =
      in_one_order xs (map at sorted) (once xs (λ i j low within. subst (λ k. ComesBefore k (slice_index_or xs j no_segment).key) (key_of xs i) (subst (λ k. ComesBefore (key_at keys i) k) (key_of xs j) (have.in_turn i j low within))))
      (subst (λ (ys : List Framed). IsPermutation ys (map at sorted)) shown (IsPermutation-map at shorts sorted moved)) (never_falls rises)

-- ---- of a row

keys_are : (row : OpenRow) → map (λ (x : Framed). x.key) (written_in row) ≡ map segment_key row.segments.items
keys_are row = map-map (λ (x : Framed). x.key) (framed_at row.gathered.items) row.segments.items

pub short_keys_sorted : (row : OpenRow) (segments : List RowSegment) (shorts sorted : List ℕ) → segments ≡ row.segments.items → HaveShortKeys (map segment_key segments) (length segments) shorts
    → IsPermutation shorts sorted → IsNonDecreasing sorted → AreShortKeys row sorted
short_keys_sorted row segments shorts sorted is have moved rises = record {
  each = subst (λ (ks : List SegKey). All (HasShortKey ks) sorted) (keys_are row) (all (written_in row) shorts sorted of moved);
  sorted = in_order (written_in row) shorts sorted of moved rises;
}
  where
    of : HaveShortKeys (map (λ (x : Framed). x.key) (written_in row)) (length (written_in row)) shorts
    of = rw (keys_are row, length-map row.segments.items (framed_at row.gathered.items)) (subst (λ (ss : List RowSegment). HaveShortKeys (map segment_key ss) (length ss) shorts) is have)

pub short_ticks : (row : OpenRow) (segments : List RowSegment) (shorts : List ℕ) (short index : ℕ) → AreShortKeys row shorts → segments ≡ row.segments.items → short ≡ slice_index_or shorts index short
    → index < length (sorted_by_key (written_in row)) → (key_at (map segment_key segments) (number_in short)).moment ≡ (slice_index_or (sorted_by_key (written_in row)) index no_segment).key.moment
short_ticks row segments shorts short index are is of within =
    let at : ℕ → Framed = λ s. slice_index_or (written_in row) (number_in s) no_segment in
    let inside : index < length shorts = omega (arith, within, ap length are.sorted, length-map shorts at) in
    ap (λ (ss : List RowSegment). (key_at (map segment_key ss) (number_in short)).moment) is
    ∙ ap (λ (ks : List SegKey). (key_at ks (number_in short)).moment) (sym (keys_are row)) ∙ ap (λ (k : SegKey). k.moment) (key_of (written_in row) (number_in short))
    ∙ ap (λ s. (at s).key.moment) of ∙ ap (λ (x : Framed). x.key.moment) (sym (get_or-map at shorts index short no_segment inside) ∙ ap (λ (xs : List Framed). slice_index_or xs index no_segment) are.sorted)
