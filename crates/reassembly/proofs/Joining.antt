-- Ordered spans make the same side as other spans that have the same byte for each position.
use Rattle.std.proofs.Common.{get_or, count_by, ◌+◌, nat_le, nat_lt, ◌&&◌, ◌==◌, ◌||◌, not, false, cond, map, length, slice_index, option_map, length-drop, ◌≡◌, ◌<◌, ◌≤◌, ◌⊎◌, inl, inr, ℕ, ◌-◌, Bool, true, List, [], ◌∷◌, Option, Some, None, is_some, Result, Ok, Err, IfOk, refl, sym, ap, ◌∙◌, arith, zero-add}
use Rattle.std.specs.List.{range_with_len, prefix_len, sum_by}
use Rattle.std.proofs.lemmas.Bool.{cases_lt, lt-ltb, le-ltb, le-leb, lt-leb, false≢true}
use Rattle.std.specs.Option.{option_or, unwrap_or}
use Rattle.std.proofs.lemmas.List.{get_or-drop}
use Rattle.std.proofs.lemmas.List.FromFn.{length-range_with_len, get_or-range_with_len}
use Rattle.std.proofs.lemmas.List.Sums.{prefix_len_passes, prefix_len_stops, prefix_len-le-length}
use Rattle.conn_table.specs.declared.conns.Member.{Member}
use Rattle.reassembly.specs.declared.patches.Patch.{Patch}
use Rattle.reassembly.specs.declared.sides.CountedFin.{CountedFin}
use Rattle.pcap_records.specs.Instants.{greatest}
use Rattle.conn_table.specs.IndexedSegments.{TimedSegment}
use Rattle.reassembly.specs.Positions.{origin, shifted_start, covers, bearer, is_covered, available_at, reach, first_gap}
use Rattle.reassembly.specs.RecordedLines.{End, RecordedSide, fin_segment, length_before, line_length, byte_at, end_at, side_of}
use Rattle.reassembly.specs.Spans.{Span, TimedByte, spans, limit, byte_in, first_byte, AreOrdered}
use Rattle.reassembly.specs.SideLines.{latest_below, line_byte, has_byte, gap_before, count_from, IsFront, IsSideOf, segment_fin, counted_fin, fin_of_members, stop_of, length_to, end_by, len_of, side_by, side_to, end_of_all, side_of_spans}
use Rattle.reassembly.specs.MemberSpans.{span_at, segment_span, member_spans, own_members}
use Rattle.reassembly.proofs.SpanBytes.{byte_in-before, byte_in-within, byte_in-past, first_byte-past}
use Rattle.reassembly.proofs.Counting.{total_is}

-- ---- the first gap

within_reach : (ps : List Span) (x : ℕ) → end_of_all ps ≤ x → first_byte ps x ≡ None
within_reach [] x h = refl
within_reach (p ∷ ps) x h = rw (byte_in-past p x (omega arith)) (within_reach ps x (omega arith))

-- the positions before the first gap are covered
pub gap_passes : (g : ℕ → Option TimedByte) (end x : ℕ) → x < gap_before g end → has_byte g x ≡ true
gap_passes g end x h =
    let within = prefix_len-le-length (has_byte g) (range_with_len 0 end) in
    let len = length-range_with_len 0 end in
    ap (has_byte g) (sym (get_or-range_with_len 0 end x 0 (omega arith) ∙ zero-add x)) ∙ prefix_len_passes (has_byte g) (range_with_len 0 end) x 0 h

module _ (g : ℕ → Option TimedByte) (end : ℕ) (none : (x : ℕ) → end ≤ x → g x ≡ None) where
  -- the first gap is not covered
  gap_stops : has_byte g (gap_before g end) ≡ true → ⊥
  gap_stops h =
      let gap : ℕ = gap_before g end in
      let len = length-range_with_len 0 end in
      elim (cases_lt gap end) [
        | inl a ↦
            false≢true (sym (prefix_len_stops (has_byte g) (range_with_len 0 end) 0 (omega arith))
            ∙ ap (has_byte g) (get_or-range_with_len 0 end gap 0 a ∙ zero-add gap) ∙ h)
        | inr a ↦ false≢true (ap is_some (sym (none gap a)) ∙ h)
      ]

  front_least : (stop n : ℕ) → IsFront g stop n → n ≤ gap_before g end
  front_least stop n f =
      elim (cases_lt (gap_before g end) n) [
        | inl a ↦ absurd (gap_stops (f.covered (gap_before g end) a))
        | inr a ↦ a
      ]

  gap_most : (n : ℕ) → g n ≡ None → gap_before g end ≤ n
  gap_most n is =
      elim (cases_lt n (gap_before g end)) [
        | inl a ↦ absurd (false≢true (ap is_some (sym is) ∙ gap_passes g end n a))
        | inr a ↦ a
      ]

  length_is : (counted : Option CountedFin) (n : ℕ) → ((x : ℕ) → limit ≤ x → g x ≡ None) → IsFront g (stop_of counted) n → n ≡ length_to counted (gap_before g end)
  length_is counted n past f = by counted f.within (front_least (stop_of counted) n f) f.ends
    where
      by : (o : Option CountedFin) → n ≤ stop_of o → n ≤ gap_before g end → (n ≡ stop_of o) ⊎ (g n ≡ None) → n ≡ length_to o (gap_before g end)
      by None within least (inl a) = let most = gap_most n (past n (omega arith)) in omega arith
      by None within least (inr a) = let most = gap_most n a in omega arith
      by (Some c) within least (inl a) = omega arith
      by (Some c) within least (inr a) = let most = gap_most n a in omega arith

-- ---- the side of segments, by their spans

-- functions that agree at each position are equal
ext : {A : Type 0} (g h : ℕ → A) → ((x : ℕ) → g x ≡ h x) → g ≡ h
ext g h e = λ i x. e x i

-- the byte of position x in a payload that begins at `start`
payload_byte : (start at : ℕ) (payload : List ℕ) (x : ℕ)
    → byte_in (span_at start at payload) x ≡ cond (nat_le start (x + origin) && nat_lt (x + origin) (start + length payload)) (Some (record { value = slice_index payload (x + origin - start); at = at })) None
payload_byte start at payload x =
    let p : Span = span_at start at payload in
    let len = length-drop (origin - start) payload in
    elim (cases_lt (x + origin) start) [
      | inl a ↦ rw (lt-leb start (x + origin) a) (byte_in-before p x (omega arith))
      | inr a ↦ elim (cases_lt (x + origin) (start + length payload)) [
        | inl b ↦
            let at_place : origin - start + (x - (start - origin)) ≡ x + origin - start = omega arith in
            rw (le-leb start (x + origin) a, lt-ltb (x + origin) (start + length payload) b)
            (byte_in-within p x (omega arith) (omega arith)
            ∙ ap (λ v. Some (let r : TimedByte = record { value = v; at = at } in r)) (get_or-drop (origin - start) payload (x - (start - origin)) 0 ∙ ap (λ k. get_or payload k 0) at_place))
        | inr b ↦ rw (le-leb start (x + origin) a, le-ltb (x + origin) (start + length payload) b) (byte_in-past p x (omega arith))
      ]
    ]

abbrev borne : ℕ → ℕ → TimedSegment → TimedByte
borne base x m = record { value = slice_index m.fields.payload (x + origin - shifted_start base m); at = m.at }

bearer_is : (base : ℕ) (ms : List TimedSegment) (x : ℕ) → first_byte (map (segment_span base) ms) x ≡ option_map (borne base x) (bearer base ms x)
bearer_is base [] x = refl
bearer_is base (m ∷ ms) x = rw (payload_byte (shifted_start base m) m.at m.fields.payload x, bearer_is base ms x) (by (covers base x m) (bearer base ms x))
  where
    by : (b : Bool) (o : Option TimedSegment) → option_or (cond b (Some (borne base x m)) None) (option_map (borne base x) o) ≡ option_map (borne base x) (cond b (Some m) o)
    by true o = refl
    by false o = refl

reach_is : (base : ℕ) (ms : List TimedSegment) → end_of_all (map (segment_span base) ms) ≡ reach base ms
reach_is base [] = refl
reach_is base (m ∷ ms) = omega (arith, reach_is base ms, length-drop (origin - shifted_start base m) m.fields.payload)

module _ (base : ℕ) (ms : List TimedSegment) where
  abbrev its : ℕ → Option TimedByte
  its = first_byte (map (segment_span base) ms)

  brought : {X : Type 0} (f : TimedByte → X) (d : X) (x : ℕ) → unwrap_or (option_map f (its x)) d ≡ unwrap_or (option_map (λ m. f (borne base x m)) (bearer base ms x)) d
  brought {X} f d x = ap (λ o. unwrap_or (option_map f o) d) (bearer_is base ms x) ∙ by (bearer base ms x)
    where
      by : (o : Option TimedSegment) → unwrap_or (option_map f (option_map (borne base x) o)) d ≡ unwrap_or (option_map (λ m. f (borne base x m)) o) d
      by None = refl
      by (Some m) = refl

  covered_is : has_byte its ≡ is_covered base ms
  covered_is = ext (has_byte its) (is_covered base ms) (λ x. ap is_some (bearer_is base ms x) ∙ by x (bearer base ms x))
    where
      by : (x : ℕ) (o : Option TimedSegment) → is_some (option_map (borne base x) o) ≡ is_some o
      by x None = refl
      by x (Some m) = refl

  latest_is : latest_below its ≡ available_at base ms
  latest_is = λ i n. greatest (map (λ x. brought (λ b. b.at) 0 x i) (range_with_len 0 n))

  bytes_are : line_byte its ≡ byte_at base ms
  bytes_are = λ i x. record { value = brought (λ b. b.value) 0 x i; at = latest_is i (x + 1); starts = x == 0 || not (latest_is i (x + 1) == latest_is i x) }

  stop_is : (o : Option TimedSegment) (gap : ℕ) → length_to (option_map (segment_fin base) o) gap ≡ length_before base o gap
  stop_is None gap = refl
  stop_is (Some m) gap = refl

  end_is : (n latest : ℕ) (other : End) (o : Option TimedSegment) → end_by n latest other (option_map (segment_fin base) o) ≡ end_at base n latest other o
  end_is n latest other None = refl
  end_is n latest other (Some m) = refl

  pub sides_agree : (other : End) → side_of_spans (map (segment_span base) ms) (counted_fin base ms) other ≡ side_of base ms other
  sides_agree other =
      let end : end_of_all (map (segment_span base) ms) ≡ reach base ms = reach_is base ms in
      let gap : gap_before its (end_of_all (map (segment_span base) ms)) ≡ first_gap base ms = λ i. prefix_len (covered_is i) (range_with_len 0 (end i)) in
      let len : length_to (counted_fin base ms) (gap_before its (end_of_all (map (segment_span base) ms))) ≡ line_length base ms = ap (length_to (counted_fin base ms)) gap ∙ stop_is (fin_segment base ms) (first_gap base ms) in
      let n : ℕ = line_length base ms in
      ap (λ k. side_to its (counted_fin base ms) other k (count_from its (end_of_all (map (segment_span base) ms)) k)) len
      ∙ (λ i. record {
        line = record { bytes = map (bytes_are i) (range_with_len 0 n); end = (ap (λ f. end_by n (f n) other (counted_fin base ms)) latest_is ∙ end_is n (available_at base ms n) other (fin_segment base ms)) i };
        lost = count_by (covered_is i) (range_with_len n (end i - n));
      })

-- ---- the side of ordered spans

side_is : (ps qs : List Span) (counted : Option CountedFin) (other : End) (n : ℕ) → AreOrdered 0 ps limit → ((x : ℕ) → first_byte ps x ≡ first_byte qs x)
    → IsFront (first_byte ps) (stop_of counted) n → side_by ps counted other n ≡ side_of_spans qs counted other
side_is ps qs counted other n o e front =
    let g : ℕ → Option TimedByte = first_byte ps in
    let end : ℕ = end_of_all qs in
    let none : (x : ℕ) → end ≤ x → g x ≡ None = λ x h. e x ∙ within_reach qs x h in
    let len = length_is g end none counted n (λ x a. first_byte-past 0 ps limit x o a) front in
    let least = front_least g end none (stop_of counted) n front in
    let within = prefix_len-le-length (has_byte g) (range_with_len 0 end) in
    let all = length-range_with_len 0 end in
    let lost : sum_by len_of ps - n ≡ count_from g end n = omega (arith, total_is ps limit n end o front.covered (omega arith) none) in
    ap (side_to g counted other n) lost ∙ ap (λ k. side_to g counted other k (count_from g end k)) len
    ∙ ap (λ h. let k = length_to counted (gap_before h end) in side_to h counted other k (count_from h end k)) (ext g (first_byte qs) e)

-- ---- a side from its members: what the calls give is the definition

pub both_ok : {X Y : Type 0} (r : Result X Y) {P Q R : X → Type 0} → IfOk r P → IfOk r Q → ((x : X) → P x → Q x → R x) → IfOk r R
both_ok (Ok x) p q f = f x p q
both_ok (Err e) p q f = tt

pub side_made : (base : Option ℕ) (b : ℕ) (client : Bool) (file : List ℕ) (members : List Member) (other : End) (given patches : List Patch) (counted : Option CountedFin) (s : RecordedSide) (n : ℕ)
    → base ≡ Some b → given ≡ patches → ((x : ℕ) → first_byte (spans patches) x ≡ first_byte (member_spans b file (own_members client members)) x)
    → AreOrdered 0 (spans patches) limit → counted ≡ fin_of_members b (own_members client members)
    → IsFront (first_byte (spans given)) (stop_of counted) n → s ≡ side_by (spans given) counted other n → IsSideOf base client file members other s
side_made base b client file members other given patches counted s n is same bytes ordered fin front value =
    let qs : List Span = member_spans b file (own_members client members) in
    let front' = rw same at front in
    let value' = rw same at value in
    rw is (value' ∙ side_is (spans patches) qs counted other n ordered bytes front' ∙ ap (λ c. side_of_spans qs c other) fin)

pub four_ok : {X Y : Type 0} (r : Result X Y) {P Q R S T : X → Type 0} → IfOk r P → IfOk r Q → IfOk r R → IfOk r S → ((x : X) → P x → Q x → R x → S x → T x) → IfOk r T
four_ok (Ok x) p q t s f = f x p q t s
four_ok (Err e) p q t s f = tt
