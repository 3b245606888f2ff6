-- Rows of deliveries, taken one after another: each is what its scenario answers, and its lists can be merged.
use Rattle.std.proofs.Common.{◌≡◌, ◌<◌, ◌≤◌, ℕ, ◌+◌, List, [], ◌∷◌, ◌++◌, map, length, take, drop, get_or, sym, ap, ◌∙◌, arith, refl, ap₂, subst}
use Rattle.std.proofs.lemmas.List.{length-append, length-drop, length-map, take_at, drop_at, take_more, drop_more, map_push}
use Rattle.std.proofs.lemmas.List.FromFn.{get_or-enumerate_from, length-enumerate_from}
use Rattle.std.proofs.lemmas.List.Elements.{All-nil, All-cons}
use Rattle.std.proofs.lemmas.List.Folds.{flat_map-map}
use Rattle.toxicap.specs.{enumerate_from, All, flat_map, rows, connections_of, delivery_of, SeenCapture, IndexedSegment, indexed_segments, Connection}
use Rattle.toxicap.specs.{connection_of, beginnings, connections, unopened_count, client_of, server_of, vlan_of, recorded_connection, delivered_connection}
use Rattle.toxicap.specs.{Framed, RisingIsSorted, HasNoKeyTwice, KeysRise, AreNumbered, KeysStandOnce, WrittenConnection, sorted_by_key, written_segments}
use Rattle.toxicap.specs.{written_connection, all_segments, capture_of, report_text, Proxy, met_proxy, Contribution, contribution, contribution_of, Delivery}
use Rattle.toxicap.specs.{Output, segments_in, lines_in, gathered_output, contributions, scenario_output}

-- ---- rows that are taken one after another

module _ {R C V : Type 0} (f : R → C → V) (rs : List R) (cs : List C) (i : ℕ) (d : R) (within : i < length rs) where
  first_and_rest : rows f (drop i rs) cs ≡ map (f (get_or rs i d)) cs ++ rows f (drop (i + 1) rs) cs
  first_and_rest = ap (λ left. rows f left cs) (drop_more rs i d within)

  width : length (map (f (get_or rs i d)) cs) ≡ length cs
  width = length-map cs (f (get_or rs i d))

  -- the next row, what is left after it, and that it is there
  pub row_taken : take (length cs) (rows f (drop i rs) cs) ≡ map (f (get_or rs i d)) cs
  row_taken = ap (take (length cs)) first_and_rest ∙ take_at (map (f (get_or rs i d)) cs) (rows f (drop (i + 1) rs) cs) (length cs) width

  pub row_left : drop (length cs) (rows f (drop i rs) cs) ≡ rows f (drop (i + 1) rs) cs
  row_left = ap (drop (length cs)) first_and_rest ∙ drop_at (map (f (get_or rs i d)) cs) (rows f (drop (i + 1) rs) cs) (length cs) width

  pub row_fits : length cs ≤ length (rows f (drop i rs) cs)
  row_fits = omega (arith, ap length first_and_rest, length-append (map (f (get_or rs i d)) cs) (rows f (drop (i + 1) rs) cs), width)

pub own_number : {A : Type 0} (xs : List A) (i : ℕ) (d : ℕ × A) → i < length xs → (get_or (enumerate_from 0 xs) i d).0 ≡ i
own_number xs i d within = ap (λ p. p.0) (get_or-enumerate_from 0 xs i d within) ∙ (let e : 0 + i ≡ i = omega arith in e)

-- the first of what is left is one more of what is taken
pub record TakesOne {X : Type 0} (xs : List X) (i : ℕ) (x : X) (left : List X) : Type 0 where
  pub taken : take (i + 1) xs ≡ take i xs ++ x ∷ []
  pub rest : left ≡ drop (i + 1) xs

pub takes_one : {X : Type 0} (xs : List X) (i : ℕ) (x : X) (left : List X) → drop i xs ≡ x ∷ left → TakesOne xs i x left
takes_one {X} xs i x left is =
    let within : i < length xs = omega (arith, length-drop i xs, ap length is) in
    let both : get_or xs i x ∷ drop (i + 1) xs ≡ x ∷ left = sym (drop_more xs i x within) ∙ is in
    let first : get_or xs i x ≡ x = cc in
    let others : left ≡ drop (i + 1) xs = cc in
    record { taken = take_more xs i x within ∙ ap (λ (y : X). take i xs ++ y ∷ []) first; rest = others }

pub mapped_push : {A B : Type 0} (f : A → B) (xs : List A) (i : ℕ) (x : A) → take (i + 1) xs ≡ take i xs ++ x ∷ [] → map f (take i xs) ++ f x ∷ [] ≡ map f (take (i + 1) xs)
mapped_push f xs i x is = sym (map_push f (take i xs) x) ∙ ap (map f) (sym is)

pub mapped_more : {A B : Type 0} (f : A → B) (xs : List A) (i : ℕ) (d : A) → i < length xs → map f (take i xs) ++ f (get_or xs i d) ∷ [] ≡ map f (take (i + 1) xs)
mapped_more f xs i d within = mapped_push f xs i (get_or xs i d) (take_more xs i d within)

-- ---- what a row of deliveries answers

module _ (ticks seed : ℕ) (s : ℕ × List Proxy) where
  -- a connection as it is written under the scenario
  written : Connection → WrittenConnection
  written c = written_connection c.number (vlan_of c) (client_of c) (server_of c) (recorded_connection c)
      (delivered_connection ticks seed s.0 c.number (met_proxy (server_of c) s.1) (recorded_connection c))

  row_segments : (cs : List Connection) → segments_in (map (delivery_of ticks seed s) cs) ≡ map (written_segments ticks) (map written cs)
  unfolding contribution written
  row_segments [] = refl
  row_segments (c ∷ cs) = ap (λ rest. written_segments ticks (written c) ∷ rest) (row_segments cs)

  numbered : (segs : List IndexedSegment) (n : ℕ) (bs : List IndexedSegment) → AreNumbered n (map written (map (connection_of segs) (enumerate_from n bs)))
  unfolding written
  numbered segs n [] = tt
  numbered segs n (b ∷ bs) = (refl, numbered segs (n + 1) bs)

  all_numbered : (c : SeenCapture) → AreNumbered 0 (map written (connections_of c))
  unfolding connections
  all_numbered c = numbered (indexed_segments 0 c.packets) 0 (beginnings (indexed_segments 0 c.packets))

  -- ---- the lists can be merged

  each_sorted : KeysRise → RisingIsSorted → (ws : List WrittenConnection) → All (λ list. sorted_by_key list ≡ list) (map (written_segments ticks) ws)
  each_sorted rise sorted [] = All-nil (λ list. sorted_by_key list ≡ list)
  each_sorted rise sorted (w ∷ ws) =
      All-cons (λ list. sorted_by_key list ≡ list) (written_segments ticks w) (map (written_segments ticks) ws) (sorted (written_segments ticks w) (rise ticks w)) (each_sorted rise sorted ws)

  pub row_is_sorted : KeysRise → RisingIsSorted → (cs : List Connection) → All (λ list. sorted_by_key list ≡ list) (segments_in (map (delivery_of ticks seed s) cs))
  row_is_sorted rise sorted cs = rw (row_segments cs) (each_sorted rise sorted (map written cs))

  pub row_stands_once : KeysStandOnce → (c : SeenCapture) → HasNoKeyTwice (all_segments (segments_in (map (delivery_of ticks seed s) (connections_of c))))
  row_stands_once once c =
      let ws : List WrittenConnection = map written (connections_of c) in
      let same : all_segments (segments_in (map (delivery_of ticks seed s) (connections_of c))) ≡ flat_map (written_segments ticks) ws =
      ap all_segments (row_segments (connections_of c)) ∙ flat_map-map (λ (list : List Framed). list) (written_segments ticks) ws in
      subst (λ (xs : List Framed). HasNoKeyTwice xs) (sym same) (once ticks 0 ws (all_numbered c))

  -- ---- the row against the contributions

  pub parts_segments : (cs : List Connection) → all_segments (segments_in (map (delivery_of ticks seed s) cs)) ≡ flat_map (λ (p : Contribution). p.segments) (map (contribution_of ticks seed s) cs)
  parts_segments [] = refl
  parts_segments (c ∷ cs) = ap (λ rest. (contribution_of ticks seed s c).segments ++ rest) (parts_segments cs)

  parts_lines : (cs : List Connection) → lines_in (map (delivery_of ticks seed s) cs) ≡ map (λ (p : Contribution). p.line) (map (contribution_of ticks seed s) cs)
  parts_lines [] = refl
  parts_lines (c ∷ cs) = ap (λ rest. (contribution_of ticks seed s c).line ∷ rest) (parts_lines cs)

abbrev pub next_scenario : List (List Proxy) → ℕ → ℕ × List Proxy
next_scenario scenarios number = get_or (enumerate_from 0 scenarios) number (0, [])

pub next_number : (scenarios : List (List Proxy)) (number : ℕ) → number < length scenarios → (next_scenario scenarios number).0 ≡ number
next_number scenarios number within = own_number scenarios number (0, []) within

-- the next deliveries, one of each connection, are those of the next scenario
pub next_row : (seed : ℕ) (c : SeenCapture) (scenarios : List (List Proxy)) (number : ℕ) → number < length scenarios → (count : ℕ) (left : List Delivery) → count ≡ length (connections_of c)
    → left ≡ rows (delivery_of c.ticks seed) (drop number (enumerate_from 0 scenarios)) (connections_of c)
    → take count left ≡ map (delivery_of c.ticks seed (next_scenario scenarios number)) (connections_of c)
next_row seed c scenarios number within count left wide is =
    let inside : number < length (enumerate_from 0 scenarios) = omega (arith, within, length-enumerate_from 0 scenarios) in
    ap₂ take wide is ∙ row_taken (delivery_of c.ticks seed) (enumerate_from 0 scenarios) (connections_of c) number (0, []) inside

pub gathered_is : (c : SeenCapture) (seed : ℕ) (s : ℕ × List Proxy) (number unopened : ℕ) → number ≡ s.0 → unopened ≡ unopened_count (indexed_segments 0 c.packets)
    → let row = map (delivery_of c.ticks seed s) (connections_of c) in
    gathered_output c number unopened (segments_in row) (lines_in row) ≡ scenario_output c seed s
unfolding scenario_output
gathered_is c seed s number unopened own count =
    let cs : List Connection = connections_of c in
    let captures : capture_of c.ticks (all_segments (segments_in (map (delivery_of c.ticks seed s) cs))) ≡ capture_of c.ticks (flat_map (λ (p : Contribution). p.segments) (contributions c seed s)) =
    ap (capture_of c.ticks) (parts_segments c.ticks seed s cs) in
    let reports : report_text number c unopened (lines_in (map (delivery_of c.ticks seed s) cs)) ≡ report_text s.0 c (unopened_count (indexed_segments 0 c.packets)) (map (λ (p : Contribution). p.line) (contributions c seed s)) =
    ap₂ (λ n u. report_text n c u (lines_in (map (delivery_of c.ticks seed s) cs))) own count
    ∙ ap (report_text s.0 c (unopened_count (indexed_segments 0 c.packets))) (parts_lines c.ticks seed s cs) in
    ap₂ (λ (a b : List ℕ). let o : Output = record { capture = a; report = b } in o) captures reports
