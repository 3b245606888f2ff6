-- What holds of every recorded line: its instants, chunks, ends and length, and that it lies where its segments do.
use Rattle.std.proofs.Common.{subst, ◌≡◌, ◌≤◌, ◌<◌, ◌^◌, ℕ, zero, suc, ◌+◌, ◌-◌, ◌==◌, ◌||◌, not, max, Bool, true, false, cond, List, [], ◌∷◌, map, length, Option, Some, None, option_map, is_some, slice_get, nat_le, refl, sym, ap, ◌∙◌, arith, zero-add, add-zero, length-drop, if◌then◌else◌}
use Rattle.std.specs.Option.{option_or}
use Rattle.std.specs.List.{AllByRecursion, range_with_len, find}
use Rattle.pcap_records.specs.Instants.{greatest}
use Rattle.std.proofs.Math.Nat.{le_trans}
use Rattle.std.proofs.lemmas.Bool.{eqb-true, or_parts, not-false}
use Rattle.std.proofs.lemmas.List.FromFn.{length-range_with_len, length-map-range_with_len}
use Rattle.std.proofs.lemmas.List.Sums.{prefix_len-le-length, take_while-cons}
use Rattle.frame_headers.specs.declared.peers.Peer.{Peer}
use Rattle.conn_table.specs.IndexedSegments.{TimedSegment, same_peer}
use Rattle.reassembly.specs.declared.sides.CountedFin.{CountedFin}
use Rattle.reassembly.specs.Positions.{effective_members, is_reset, sequence_space, origin, shifted_start}
use Rattle.reassembly.specs.RecordedLines.{End, RecordedSide, fin, is_counted_fin, reset_or_live, sent_by, recorded_side}
use Rattle.reassembly.specs.MemberSpans.{segment_span}
use Rattle.reassembly.specs.SideLines.{instant_of, latest_below, line_byte, line_bytes, has_byte, gap_before, segment_fin, counted_fin, length_to, end_by, end_of_all, side_of_spans}
use Rattle.reassembly.specs.Spans.{Span, TimedByte, first_byte}
use Rattle.reassembly.specs.LineLaws.{GoesOn, IsInChunks, last_instant, IsNotBefore, IsLine, InstantsRise, HasShortPayload, IsBetween, LiesBetween, RecordedSidesAreLines, RecordedSidesLieBetween}
use Rattle.reassembly.proofs.Walks.{latest_below-more}
use Rattle.reassembly.proofs.Joining.{gap_passes, sides_agree}
use Rattle.lists.proofs.Lists.{all_found, all_filter, all_take_while, all_weaker}

-- ---- chunks

same_instant : (x now before : ℕ) → (x == 0 || not (now == before)) ≡ false → now ≡ before
same_instant x now before h = eqb-true now before (not-false (now == before) (or_parts (x == 0) (not (now == before)) h).1)

goes_on : (g : ℕ → Option TimedByte) (x k : ℕ) → GoesOn (latest_below g x) (map (line_byte g) (range_with_len x k))
goes_on g x zero = tt
goes_on g x (suc k) = (rw (latest_below-more g x) (omega arith), λ h. same_instant x (latest_below g (x + 1)) (latest_below g x) h, goes_on g (x + 1) k)

in_chunks : (g : ℕ → Option TimedByte) (n : ℕ) → IsInChunks (line_bytes g n)
in_chunks g zero = tt
in_chunks g (suc n) = (refl, goes_on g (0 + 1) n)

last_is : (g : ℕ → Option TimedByte) (x k : ℕ) → last_instant (latest_below g x) (map (line_byte g) (range_with_len x k)) ≡ latest_below g (x + k)
last_is g x zero = ap (latest_below g) (sym (add-zero x))
last_is g x (suc k) = let e : x + 1 + k ≡ x + suc k = omega arith in last_is g (x + 1) k ∙ ap (latest_below g) e

-- ---- instants

pub all_mapped : {A B : Type 0} (P : B → Type 0) (f : A → B) → ((a : A) → P (f a)) → (xs : List A) → AllByRecursion P (map f xs)
all_mapped P f each [] = tt
all_mapped P f each (x ∷ xs) = (each x, all_mapped P f each xs)

pub greatest-le : (limit : ℕ) (ns : List ℕ) → AllByRecursion (λ n. n ≤ limit) ns → greatest ns ≤ limit
greatest-le limit [] all = omega arith
greatest-le limit (n ∷ ns) all = let later = greatest-le limit ns all.1 in omega (arith, all.0, later)

-- what holds of no byte, and of each byte of some segments, holds of what these have for a position
byte_has : (P : Option TimedByte → Type 0) → P None → (base : ℕ) (ms : List TimedSegment) (x : ℕ) → AllByRecursion (λ m. (v : ℕ) → P (Some (record { value = v; at = m.at }))) ms
    → P (first_byte (map (segment_span base) ms) x)
byte_has P none base [] x all = none
byte_has P none base (m ∷ ms) x all =
    let p : Span = segment_span base m in
    by (nat_le p.from x) (slice_get p.bytes (x - p.from)) (byte_has P none base ms x all.1)
  where
    by : (t : Bool) (o : Option ℕ) → P (first_byte (map (segment_span base) ms) x)
        → P (option_or (if t then option_map (λ v. record { value = v; at = m.at }) o else None) (first_byte (map (segment_span base) ms) x))
    by true (Some v) rest = all.0 v
    by true None rest = rest
    by false o rest = rest

latest-le : (base : ℕ) (ms : List TimedSegment) (t n : ℕ) → AllByRecursion (λ m. m.at ≤ t) ms → latest_below (first_byte (map (segment_span base) ms)) n ≤ t
latest-le base ms t n all =
    let g : ℕ → Option TimedByte = first_byte (map (segment_span base) ms) in
    let each = all_weaker (λ m. m.at ≤ t) (λ m. ℕ → m.at ≤ t) (λ m le v. le) ms all in
    greatest-le t _ (all_mapped (λ k. k ≤ t) (λ x. instant_of (g x)) (λ x. byte_has (λ o. instant_of o ≤ t) (omega arith) base ms x each) (range_with_len 0 n))

-- ---- ends

reset_from : (t : ℕ) (o : Option TimedSegment) → ((r : TimedSegment) → o ≡ Some r → t ≤ r.at) → IsNotBefore t (reset_or_live o)
reset_from t None from = tt
reset_from t (Some r) from = from r refl

end_from : (t n latest : ℕ) (other : End) (o : Option CountedFin) → ((c : CountedFin) → o ≡ Some c → t ≤ max c.at latest) → IsNotBefore t other → IsNotBefore t (end_by n latest other o)
end_from t n latest other None from since = since
end_from t n latest other (Some c) from since = by (n == c.position)
  where
    by : (b : Bool) → IsNotBefore t (if b then fin (max c.at latest) else other)
    by true = from c refl
    by false = since

-- what counts came before the first reset
before_reset : (last : ℕ) (members : List TimedSegment) (r : TimedSegment) → InstantsRise last members → find is_reset members ≡ Some r
    → (last ≤ r.at) × AllByRecursion (λ m. m.at ≤ r.at) (effective_members members)
before_reset last [] r rise is = absurd cc
before_reset last (m ∷ members) r rise is = rw (take_while-cons (λ k. not (is_reset k)) m members) (by (is_reset m) is (before_reset m.at members r rise.1))
  where
    by : (t : Bool) → cond t (Some m) (find is_reset members) ≡ Some r → (find is_reset members ≡ Some r → (m.at ≤ r.at) × AllByRecursion (λ k. k.at ≤ r.at) (effective_members members))
        → (last ≤ r.at) × AllByRecursion (λ k. k.at ≤ r.at) (cond (not t) (m ∷ effective_members members) [])
    by true e rest = let same : m ≡ r = cc in (rw (← same) rise.0, tt)
    by false e rest = let later = rest e in (le_trans rise.0 later.0, (later.0, later.1))

-- ---- lengths

reach-short : (base : ℕ) (ms : List TimedSegment) → AllByRecursion HasShortPayload ms → end_of_all (map (segment_span base) ms) < sequence_space
reach-short base [] all = omega arith
reach-short base (m ∷ ms) all =
    let rest = reach-short base ms all.1 in
    let len : length m.fields.payload ≤ 2 ^ 30 = all.0 in
    omega (arith, length-drop (origin - shifted_start base m) m.fields.payload)

length_before-le : (o : Option CountedFin) (gap : ℕ) → length_to o gap ≤ gap
length_before-le None gap = omega arith
length_before-le (Some c) gap = omega arith

-- ---- the sides of segments

module _ (members : List TimedSegment) (sender : Peer) (base : ℕ) where
  abbrev own : List TimedSegment
  own = sent_by sender (effective_members members)

  abbrev g : ℕ → Option TimedByte
  g = first_byte (map (segment_span base) own)

  abbrev end : ℕ
  end = end_of_all (map (segment_span base) own)

  abbrev other : End
  other = reset_or_live (find is_reset members)

  abbrev n : ℕ
  n = length_to (counted_fin base own) (gap_before g end)

  abbrev side : RecordedSide
  side = side_of_spans (map (segment_span base) own) (counted_fin base own) other

  all_own : (P : TimedSegment → Type 0) → AllByRecursion P members → AllByRecursion P own
  all_own P all = all_filter P (λ m. same_peer m.fields.from sender) (effective_members members) (all_take_while P (λ m. not (is_reset m)) members all)

  before_end : (r : TimedSegment) → InstantsRise 0 members → find is_reset members ≡ Some r → latest_below g n ≤ r.at
  before_end r rise is = latest-le base own r.at n (all_filter (λ m. m.at ≤ r.at) (λ m. same_peer m.fields.from sender) (effective_members members) (before_reset 0 members r rise is).1)

  is_line : InstantsRise 0 members → AllByRecursion HasShortPayload members → IsLine side.line
  is_line rise shorts =
      let last : last_instant 0 (line_bytes g n) ≡ latest_below g n = last_is g 0 n ∙ ap (latest_below g) (zero-add n) in
      record {
        chunks = in_chunks g n;
        ends = rw last
            (end_from (latest_below g n) n (latest_below g n) other (counted_fin base own) (λ c e. omega arith) (reset_from (latest_below g n) (find is_reset members) (λ r e. before_end r rise e)));
        short = omega (
          arith,
          length-map-range_with_len (line_byte g) 0 n,
          length_before-le (counted_fin base own) (gap_before g end),
          prefix_len-le-length (has_byte g) (range_with_len 0 end),
          length-range_with_len 0 end,
          reach-short base own (all_own HasShortPayload shorts),
        );
      }

  module _ (opened limit : ℕ) (all : AllByRecursion (IsBetween opened limit) members) where
    mine : AllByRecursion (IsBetween opened limit) own
    mine = all_own (IsBetween opened limit) all

    -- all that is available came after the first byte
    bytes_from : (k : ℕ) → k ≤ gap_before g end → AllByRecursion (λ b. opened ≤ b.at) (line_bytes g k)
    bytes_from zero within = tt
    bytes_from (suc k) within =
        let each = all_weaker (IsBetween opened limit) (λ m. ℕ → true ≡ true → opened ≤ m.at) (λ m between v t. between.0) own mine in
        let first : opened ≤ instant_of (g 0) =
        byte_has (λ o. is_some o ≡ true → opened ≤ instant_of o) (λ e. absurd cc) base own 0 each (gap_passes g end 0 (omega (arith, within))) in
        all_mapped (λ b. opened ≤ b.at) (line_byte g) (λ x. from_first x first) (range_with_len 0 (suc k))
      where
        from_first : (x : ℕ) → opened ≤ instant_of (g 0) → opened ≤ latest_below g (x + 1)
        from_first x first = let e : x + 1 ≡ suc x = omega arith in rw e (omega (arith, first))

    fin_from : (c : CountedFin) → counted_fin base own ≡ Some c → opened ≤ c.at
    fin_from c is = by (find (is_counted_fin base) own) refl is
      where
        by : (o : Option TimedSegment) → find (is_counted_fin base) own ≡ o → option_map (segment_fin base) o ≡ Some c → opened ≤ c.at
        by None e is = absurd cc
        by (Some m) e is =
            let same : segment_fin base m ≡ c = cc in
            rw (← same) (all_found (IsBetween opened limit) (is_counted_fin base) own m mine e).0

    since_reset : IsNotBefore opened other
    since_reset = reset_from opened (find is_reset members) (λ r e. (all_found (IsBetween opened limit) is_reset members r all e).0)

    lies : LiesBetween opened limit side.line
    lies = record {
      from = bytes_from n (length_before-le (counted_fin base own) (gap_before g end));
      to = all_mapped (λ b. b.at ≤ limit) (line_byte g) (λ x. latest-le base own limit (x + 1) (all_weaker (IsBetween opened limit) (λ m. m.at ≤ limit) (λ m between. between.1) own mine)) (range_with_len 0 n);
      ends = end_from opened n (latest_below g n) other (counted_fin base own) (λ c e. let h = fin_from c e in omega arith) since_reset;
    }

pub recorded_sides_are_lines : RecordedSidesAreLines
unfolding recorded_side
recorded_sides_are_lines members sender None rise shorts = record { chunks = tt; ends = reset_from 0 (find is_reset members) (λ r e. omega arith); short = omega arith }
recorded_sides_are_lines members sender (Some base) rise shorts = subst (λ s. IsLine s.line) (sides_agree base (own members sender base) (other members sender base)) (is_line members sender base rise shorts)

pub recorded_sides_lie_between : RecordedSidesLieBetween
unfolding recorded_side
recorded_sides_lie_between members sender None opened limit all = record { from = tt; to = tt; ends = since_reset members sender 0 opened limit all }
recorded_sides_lie_between members sender (Some base) opened limit all = subst (λ s. LiesBetween opened limit s.line) (sides_agree base (own members sender base) (other members sender base)) (lies members sender base opened limit all)
