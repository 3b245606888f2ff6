-- No two segments that are written have one key.
use Rattle.std.proofs.Common.{◌≡◌, ◌≤◌, ◌<◌, ℕ, ◌+◌, Bool, true, false, cond, not, ◌&&◌, nat_lt, List, [], ◌∷◌, ◌++◌, filter, map, refl, ap, ap₂, ◌∙◌, arith, append_assoc}
use Rattle.std.specs.List.{All, enumerate_from, flat_map}
use Rattle.std.proofs.lemmas.List.Elements.{All-nil, All-cons, All-append, All-filter, All-weaker}
use Rattle.std.proofs.lemmas.List.Sorted.{All-permutation}
use Rattle.pcap_records.specs.Instants.{horizon}
use Rattle.segment_writer.specs.WrittenSegments.{WrittenConnection, Host, SentSegment, framed_segment, is_key_below, below, sorted_by_key, segments_before_horizon, opening_turn, up_turn, down_turn, written_segments, segments_sent_by}
use Rattle.segment_writer.specs.KeyOrder.{RisesFrom, AreRising}
use Rattle.segment_writer.specs.KeyLaws.{same_key, HasNoKeyTwice, KeysRise, AreNumbered, KeysStandOnce}
use Rattle.segment_writer.specs.declared.framed.SegKey.{SegKey}
use Rattle.segment_writer.specs.declared.framed.Framed.{Framed}
use Rattle.segment_writer.specs.OrderedLists.{Ordered}
use Rattle.segment_writer.proofs.Sorting.{not_below_itself}
use Rattle.segment_writer.proofs.InOrder.{below_order, sorted_never_falls, sorted_keeps_all}
use Rattle.segment_writer.proofs.KeyCounts.{same_conn, same_turn, same_place, key_count, key_count-cons, key_count-sorted, key_count-filter, apart, one_alone}

only : (P : Framed → Type 0) (x : Framed) → P x → All P (x ∷ [])
only P x h = All-cons P x [] h (All-nil P)

-- ---- a turn

-- segments of one turn, whose places count from n on
abbrev Counts : ℕ → ℕ → ℕ → List Framed → Type 0
Counts conn turn n [] = Unit {0}
Counts conn turn n (x ∷ xs) = ((x.key.conn ≡ conn) × (x.key.turn ≡ turn) × (x.key.place ≡ n)) × Counts conn turn (n + 1) xs

module _ (conn turn : ℕ) where
  turns_are : (n : ℕ) (xs : List Framed) → Counts conn turn n xs → All (λ (x : Framed). x.key.turn ≡ turn) xs
  turns_are n [] counts = All-nil (λ (x : Framed). x.key.turn ≡ turn)
  turns_are n (x ∷ xs) counts = All-cons (λ (x : Framed). x.key.turn ≡ turn) x xs counts.0.1 (turns_are (n + 1) xs counts.1)

  conns_are : (n : ℕ) (xs : List Framed) → Counts conn turn n xs → All (λ (x : Framed). x.key.conn ≡ conn) xs
  conns_are n [] counts = All-nil (λ (x : Framed). x.key.conn ≡ conn)
  conns_are n (x ∷ xs) counts = All-cons (λ (x : Framed). x.key.conn ≡ conn) x xs counts.0.0 (conns_are (n + 1) xs counts.1)

  places_above : (low n : ℕ) (xs : List Framed) → low < n → Counts conn turn n xs → All (λ (x : Framed). low < x.key.place) xs
  places_above low n [] h counts = All-nil (λ (x : Framed). low < x.key.place)
  places_above low n (x ∷ xs) h counts =
      let place : x.key.place ≡ n = counts.0.2 in
      All-cons (λ (x : Framed). low < x.key.place) x xs (let above : low < x.key.place = omega arith in above) (places_above low (n + 1) xs (omega arith) counts.1)

  turn_once : (n : ℕ) (xs : List Framed) → Counts conn turn n xs → HasNoKeyTwice xs
  turn_once n [] counts k = omega arith
  turn_once n (x ∷ xs) counts k =
      apart (λ key. key.place) same_place n (x ∷ []) xs (only (λ y. y.key.place ≡ n) x counts.0.2) (places_above n (n + 1) xs (omega arith) counts.1) (one_alone x) (turn_once (n + 1) xs counts.1) k

opening_counts : (refused : Bool) (ticks : ℕ) (c : WrittenConnection) → Counts c.number 0 0 (opening_turn refused ticks c)
opening_counts true ticks c = ((refl, refl, refl), ((refl, refl, refl), tt))
opening_counts false ticks c = ((refl, refl, refl), ((refl, refl, refl), ((refl, refl, refl), tt)))

sent_counts : (ticks : ℕ) (c : WrittenConnection) (turn : ℕ) (from to : Host) (n : ℕ) (sent : List SentSegment) → Counts c.number turn n (map (framed_segment ticks c turn from to) (enumerate_from n sent))
sent_counts ticks c turn from to n [] = tt
sent_counts ticks c turn from to n (s ∷ sent) = ((refl, refl, refl), sent_counts ticks c turn from to (n + 1) sent)

-- ---- three turns of a connection, some of their segments left out

module _ (conn : ℕ) (p : Framed → Bool) (opening ups downs : List Framed) (opening_count : Counts conn 0 0 opening) (ups_count : Counts conn 1 0 ups) (downs_count : Counts conn 2 0 downs) where
  up_turns : All (λ (x : Framed). x.key.turn ≡ 1) ups
  up_turns = turns_are conn 1 0 ups ups_count

  down_turns : All (λ (x : Framed). x.key.turn ≡ 2) downs
  down_turns = turns_are conn 2 0 downs downs_count

  lines_once : HasNoKeyTwice (ups ++ downs)
  lines_once =
      apart (λ k. k.turn) same_turn 1 ups downs up_turns (All-weaker (λ x. x.key.turn ≡ 2) (λ x. 1 < x.key.turn) (λ x h. omega arith) downs down_turns)
      (turn_once conn 1 0 ups ups_count) (turn_once conn 2 0 downs downs_count)

  turns_once : HasNoKeyTwice ((opening ++ ups) ++ downs)
  turns_once =
      rw (append_assoc opening ups downs)
      (apart (λ k. k.turn) same_turn 0 opening (ups ++ downs) (turns_are conn 0 0 opening opening_count)
      (All-append (λ x. 0 < x.key.turn) ups downs (All-weaker (λ x. x.key.turn ≡ 1) (λ x. 0 < x.key.turn) (λ x h. omega arith) ups up_turns) (All-weaker (λ x. x.key.turn ≡ 2) (λ x. 0 < x.key.turn) (λ x h. omega arith) downs down_turns))
      (turn_once conn 0 0 opening opening_count) lines_once)

  abbrev of_conn : Framed → Type 0
  of_conn x = x.key.conn ≡ conn

  kept_once : HasNoKeyTwice (filter p ((opening ++ ups) ++ downs))
  kept_once k =
      let few : key_count k ((opening ++ ups) ++ downs) ≤ 1 = turns_once k in
      omega (arith, key_count-filter k p ((opening ++ ups) ++ downs))

  kept_conns : All of_conn (filter p ((opening ++ ups) ++ downs))
  kept_conns =
      All-filter p of_conn ((opening ++ ups) ++ downs)
      (All-append of_conn (opening ++ ups) downs
      (All-append of_conn opening ups (conns_are conn 0 0 opening opening_count) (conns_are conn 1 0 ups ups_count)) (conns_are conn 2 0 downs downs_count))

-- ---- a connection

module _ (ticks : ℕ) (c : WrittenConnection) where
  abbrev opening : List Framed
  opening = opening_turn c.refused ticks c

  abbrev ups : List Framed
  ups = up_turn ticks c

  abbrev downs : List Framed
  downs = down_turn ticks c

  abbrev early : Framed → Bool
  early x = nat_lt x.key.moment (horizon ticks)

  ups_count : Counts c.number 1 0 ups
  ups_count = sent_counts ticks c 1 c.client.host c.server.host 0 (segments_sent_by c.client c.server)

  downs_count : Counts c.number 2 0 downs
  downs_count = sent_counts ticks c 2 c.server.host c.client.host 0 (segments_sent_by c.server c.client)

  written_once : HasNoKeyTwice (written_segments ticks c)
  unfolding written_segments
  written_once k =
      let kept : List Framed = segments_before_horizon ticks ((opening ++ ups) ++ downs) in
      let few : key_count k kept ≤ 1 = kept_once c.number early opening ups downs (opening_counts c.refused ticks c) ups_count downs_count k in
      omega (arith, key_count-sorted k kept)

  written_ordered : Ordered below (written_segments ticks c)
  unfolding written_segments
  written_ordered = sorted_never_falls (segments_before_horizon ticks ((opening ++ ups) ++ downs))

  written_conns : All (λ (x : Framed). x.key.conn ≡ c.number) (written_segments ticks c)
  unfolding written_segments
  written_conns =
      let kept : List Framed = segments_before_horizon ticks ((opening ++ ups) ++ downs) in
      All-permutation (λ (x : Framed). x.key.conn ≡ c.number) kept (sorted_by_key kept) (sorted_keeps_all kept) (kept_conns c.number early opening ups downs (opening_counts c.refused ticks c) ups_count downs_count)

-- ---- in order, and no key twice: keys rise

once_behind : (x : Framed) (xs : List Framed) → HasNoKeyTwice (x ∷ xs) → HasNoKeyTwice xs
once_behind x xs once k =
    let few : key_count k (x ∷ xs) ≤ 1 = once k in
    omega (arith, key_count-cons k x xs)

same_of : (a b : SegKey) → is_key_below a b ≡ false → is_key_below b a ≡ false → same_key a b ≡ true
same_of a b e f = ap₂ (λ (u v : Bool). not u && not v) e f

strictly : (x y : Framed) (ys : List Framed) → below y x ≡ false → HasNoKeyTwice (x ∷ y ∷ ys) → is_key_below x.key y.key ≡ true
strictly x y ys up once = by (is_key_below x.key y.key) refl
  where
    by : (b : Bool) → is_key_below x.key y.key ≡ b → is_key_below x.key y.key ≡ true
    by true e = e
    by false e =
        let itself = same_of x.key x.key (not_below_itself below below_order x) (not_below_itself below below_order x) in
        let other = same_of x.key y.key e up in
        let twice : key_count x.key (x ∷ y ∷ ys) ≡ 1 + (1 + key_count x.key ys) =
        key_count-cons x.key x (y ∷ ys) ∙ ap (λ (u : Bool). cond u 1 0 + key_count x.key (y ∷ ys)) itself
        ∙ ap (λ n. 1 + n) (key_count-cons x.key y ys ∙ ap (λ (v : Bool). cond v 1 0 + key_count x.key ys) other) in
        let few : key_count x.key (x ∷ y ∷ ys) ≤ 1 = once x.key in
        absurd (omega arith)

rises_from : (x : Framed) (xs : List Framed) → Ordered below (x ∷ xs) → HasNoKeyTwice (x ∷ xs) → RisesFrom x.key xs
rises_from x [] ordered once = tt
rises_from x (y ∷ ys) ordered once = (strictly x y ys ordered.0.0 once, rises_from y ys ordered.1 (once_behind x (y ∷ ys) once))

rising : (xs : List Framed) → Ordered below xs → HasNoKeyTwice xs → AreRising xs
rising [] ordered once = tt
rising (x ∷ xs) ordered once = rises_from x xs ordered once

pub keys_rise : KeysRise
keys_rise ticks c = rising (written_segments ticks c) (written_ordered ticks c) (written_once ticks c)

-- ---- connections that are numbered in turn

from_number : (ticks n : ℕ) (cs : List WrittenConnection) → AreNumbered n cs → All (λ (x : Framed). n ≤ x.key.conn) (flat_map (written_segments ticks) cs)
from_number ticks n [] numbered = All-nil (λ x. n ≤ x.key.conn)
from_number ticks n (c ∷ cs) numbered =
    let is : c.number ≡ n = numbered.0 in
    All-append (λ x. n ≤ x.key.conn) (written_segments ticks c) (flat_map (written_segments ticks) cs)
    (All-weaker (λ x. x.key.conn ≡ c.number) (λ x. n ≤ x.key.conn) (λ x h. omega arith) (written_segments ticks c) (written_conns ticks c))
    (All-weaker (λ x. n + 1 ≤ x.key.conn) (λ x. n ≤ x.key.conn) (λ x h. omega arith) (flat_map (written_segments ticks) cs) (from_number ticks (n + 1) cs numbered.1))

pub keys_stand_once : KeysStandOnce
keys_stand_once ticks n [] numbered k = omega arith
keys_stand_once ticks n (c ∷ cs) numbered k =
    let is : c.number ≡ n = numbered.0 in
    apart (λ key. key.conn) same_conn n (written_segments ticks c) (flat_map (written_segments ticks) cs)
    (All-weaker (λ x. x.key.conn ≡ c.number) (λ x. x.key.conn ≡ n) (λ x h. h ∙ is) (written_segments ticks c) (written_conns ticks c))
    (All-weaker (λ x. n + 1 ≤ x.key.conn) (λ x. n < x.key.conn) (λ x h. omega arith) (flat_map (written_segments ticks) cs) (from_number ticks (n + 1) cs numbered.1))
    (written_once ticks c) (keys_stand_once ticks (n + 1) cs numbered.1) k
