-- The table of a partial is that of its range: connections grow as the filters find them.
use Rattle.std.proofs.Common.{◌≡◌, ◌<◌, ◌≤◌, ◌==◌, ℕ, suc, ◌+◌, nat_lt, not, Bool, true, false, ◌&&◌, cond, List, [], ◌∷◌, ◌++◌, length, map, filter, Option, Some, None, is_none, refl, sym, ap, ap₂, subst, ◌∙◌, arith}
use Rattle.std.specs.Prelude.{fold}
use Rattle.std.specs.List.{AllByRecursion, enumerate_from, last_or}
use Rattle.std.specs.Option.{option_map}
use Rattle.std.specs.Bool.{beq}
use Rattle.std.specs.Cmp.{booleans_Decides}
use Rattle.std.proofs.lemmas.Bool.{and_parts, eq-eqb, eqb-true, ne_eqb, le-ltb, lt-ltb}
use Rattle.std.proofs.lemmas.List.{append_assoc, append-nil, length-map, map-append, map_push}
use Rattle.std.proofs.lemmas.List.FromFn.{length-enumerate_from}
use Rattle.std.proofs.lemmas.Option.{same_Some}
use Rattle.lists.proofs.Lists.{all_weaker, all_push}
use Rattle.pcap_records.specs.CaptureView.{CaptureView}
use Rattle.frame_headers.specs.declared.peers.Peer.{Peer}
use Rattle.conn_table.specs.declared.conns.Pair.{Pair}
use Rattle.conn_table.specs.declared.conns.Member.{Member}
use Rattle.conn_table.specs.declared.conns.Conn.{Conn}
use Rattle.conn_table.specs.declared.entries.Opening.{Opening}
use Rattle.conn_table.specs.declared.last_connections.Current.{Current}
use Rattle.conn_table.specs.IndexedSegments.{IndexedSegment, peer_le, same_pair, pair_of_segment}
use Rattle.conn_table.specs.Connections.{is_opening, of_one_pair, repeats, begins_in, beginnings, beginning_of, is_at, unopened_count, later_members, Connection, connection_of, connections, last_of}
use Rattle.conn_table.specs.IndexedConnections.{indexed_connection_of, indexed_connections, without_indices, IndexedConnectionsAgree}
use Rattle.conn_table.specs.KeptSegments.{KeptSegment, kept_in, is_again}
use Rattle.conn_table.specs.Partials.{packets_between, segments_between, partial_in}
use Rattle.conn_table.specs.Growing.{GrownView, sender_of, receiver_of, member_from, conn_with, grown_at, grown_none, begins, grown_begun, grown_plain, grown_with, grown_of}
use Rattle.conn_table.specs.Tables.{member_in, conn_in, finished, table_in, TablesAgree}
use Rattle.conn_table.proofs.GroupingFilters.{filter_none, last_or-push, last_passes}
use Rattle.conn_table.proofs.GroupingOrder.{AreBelow, IsRising, AreFrom-rising, below_at, below_next, rising_between}
use Rattle.conn_table.proofs.FilterSteps.{with_next, openings, begins_next, beginnings_next, begun_below, belongs_next, more_of, later_next, unopened_next}
use Rattle.conn_table.proofs.RangeSteps.{enumerate_from-append}
use Rattle.conn_table.proofs.Peers.{same_pair-is, one_pair-is, one_pair-from, one_pair-itself, same_sender}

-- ---- without the numbers of records

pub indexed_connections_agree : IndexedConnectionsAgree
unfolding indexed_connections connections
indexed_connections_agree segs = each (enumerate_from 0 (beginnings segs))
  where
    each : (bs : List (ℕ × IndexedSegment)) → map without_indices (map (indexed_connection_of segs) bs) ≡ map (connection_of segs) bs
    each [] = refl
    each ((n, b) ∷ bs) = ap (λ (cs : List Connection). connection_of segs (n, b) ∷ cs) (each bs)

-- ---- what is kept of segments

abbrev low : IndexedSegment → Bool
low s = peer_le s.timed.fields.from s.timed.fields.to

abbrev opened : IndexedSegment → Opening
opened s = record { from_low = low s; seq = s.timed.fields.seq }

member-kept : (c : CaptureView) (b x : IndexedSegment) → of_one_pair b x ≡ true → member_from (low b) (kept_in c x) ≡ member_in c b.timed.fields.from x
member-kept c b x one =
    let with_client : Bool → Member = λ is. record (kept_in c x).member { from_client = is } in
    ap with_client (same_sender x b one)

picked : (t : Bool) (a b : Peer) → cond t (cond t a b) (cond t b a) ≡ a
picked true a b = refl
picked false a b = refl

sender-kept : (c : CaptureView) (b : IndexedSegment) → sender_of (kept_in c b) ≡ b.timed.fields.from
sender-kept c b = picked (low b) b.timed.fields.from b.timed.fields.to

receiver-kept : (c : CaptureView) (b : IndexedSegment) → receiver_of (kept_in c b) ≡ b.timed.fields.to
receiver-kept c b = picked (low b) b.timed.fields.to b.timed.fields.from

conn-kept : (c : CaptureView) (n : ℕ) (b : IndexedSegment) → conn_with n (kept_in c b) ≡ conn_in c (record { number = n; opening = b; later = [] })
conn-kept c n b = rw (member-kept c b b (one_pair-itself b), sender-kept c b, receiver-kept c b) refl

-- ---- the last connection of a pair

abbrev further : Option Current → Option Current → Option Current
further None here = here
further (Some x) here = Some (record { number = suc x.number; opening = x.opening })

abbrev here_of : IndexedSegment → Current
here_of b = record { number = 0; opening = opened b }

-- the last beginning of a pair: the number of beginnings before it, and its opening
abbrev current_in : Pair → List IndexedSegment → Option Current
current_in p [] = None
current_in p (b ∷ bs) = further (current_in p bs) (cond (same_pair (pair_of_segment b) p) (Some (here_of b)) None)

current_in-push : (p : Pair) (bs : List IndexedSegment) (s : IndexedSegment)
    → current_in p (bs ++ s ∷ []) ≡ cond (same_pair (pair_of_segment s) p) (Some (record { number = length bs; opening = opened s })) (current_in p bs)
current_in-push p [] s = refl
current_in-push p (b ∷ bs) s = rw (current_in-push p bs s) (by_test (same_pair (pair_of_segment s) p))
  where
    here : Option Current
    here = cond (same_pair (pair_of_segment b) p) (Some (here_of b)) None

    by_test : (t : Bool) → further (cond t (Some (record { number = length bs; opening = opened s })) (current_in p bs)) here
        ≡ cond t (Some (record { number = suc (length bs); opening = opened s })) (further (current_in p bs) here)
    by_test true = refl
    by_test false = refl

none_of : (p : Pair) (bs : List IndexedSegment) → current_in p bs ≡ None → filter (λ b. same_pair (pair_of_segment b) p) bs ≡ []
none_of p [] none = refl
none_of p (b ∷ bs) none = by (same_pair (pair_of_segment b) p) (current_in p bs) refl none (none_of p bs)
  where
    by : (t : Bool) (o : Option Current) → current_in p bs ≡ o → further o (cond t (Some (here_of b)) None) ≡ None
        → (current_in p bs ≡ None → filter (λ b. same_pair (pair_of_segment b) p) bs ≡ [])
        → cond t (b ∷ filter (λ b. same_pair (pair_of_segment b) p) bs) (filter (λ b. same_pair (pair_of_segment b) p) bs) ≡ []
    by t (Some x) found none rest = absurd cc
    by true None found none rest = absurd cc
    by false None found none rest = rest found

-- ---- connections with one segment more

abbrev conns_to : CaptureView → List IndexedSegment → List (ℕ × IndexedSegment) → List Conn
conns_to c xs bs = map (conn_in c) (map (indexed_connection_of xs) bs)

-- if s belongs to o, which is there, one connection has it, and none that begins before m is that one
record GrowsAt (c : CaptureView) (xs : List IndexedSegment) (s : IndexedSegment) (o : Option IndexedSegment) (x : Current) (k m : ℕ) (bs : List IndexedSegment) : Type 0 where
  conns : conns_to c (with_next xs s) (enumerate_from k bs) ≡ grown_at x.number (member_from x.opening.from_low (kept_in c s)) (conns_to c xs (enumerate_from k bs))
  apart : (b : IndexedSegment) → b.index < m → is_at b o ≡ false
  some : is_none o ≡ false

module _ (c : CaptureView) (xs : List IndexedSegment) (s : IndexedSegment) (o : Option IndexedSegment) where
  -- b's connection has s if b is the beginning that s belongs to
  abbrev Takes : IndexedSegment → Type 0
  Takes b = later_members (with_next xs s) b ≡ later_members xs b ++ more_of (is_at b o) s

  takes : AreBelow s.index xs → beginning_of (with_next xs s) s ≡ o → AllByRecursion Takes (beginnings xs)
  takes below is =
      all_weaker (λ b. b.index < s.index) Takes
      (λ b behind. later_next xs s b below ∙ ap (λ t. later_members xs b ++ more_of t s) (rw (lt-ltb b.index s.index behind) (ap (λ x. is_at b x) is))) (beginnings xs) (begun_below s.index xs below)

  same_conns : (k : ℕ) (bs : List IndexedSegment) → AllByRecursion Takes bs → AllByRecursion (λ b. is_at b o ≡ false) bs → conns_to c (with_next xs s) (enumerate_from k bs) ≡ conns_to c xs (enumerate_from k bs)
  same_conns k [] each apart = refl
  same_conns k (b ∷ bs) each apart =
      let same : later_members (with_next xs s) b ≡ later_members xs b = each.0 ∙ rw apart.0 (append-nil (later_members xs b)) in
      rw (same, same_conns (k + 1) bs each.1 apart.1) refl

  grows : (x : Current) (k m : ℕ) (before : Option IndexedSegment) (bs : List IndexedSegment) → IsRising m bs → AllByRecursion Takes bs → current_in (pair_of_segment s) bs ≡ Some x
      → o ≡ last_or before (filter (of_one_pair s) bs) → GrowsAt c xs s o x k m bs
  grows x k m before [] rising each found is = absurd cc
  grows x k m before (b ∷ bs) rising each found is =
      by (of_one_pair s b) (current_in (pair_of_segment s) bs) refl refl found is (λ y before last is. grows y (k + 1) (b.index + 1) before bs rising.1 each.1 last is)
    where
      later : (y : Current) → record { number = suc y.number; opening = y.opening } ≡ x → GrowsAt c xs s o y (k + 1) (b.index + 1) bs → GrowsAt c xs s o x k m (b ∷ bs)
      later y e rest =
          let same : later_members (with_next xs s) b ≡ later_members xs b = each.0 ∙ rw (rest.apart b (omega arith)) (append-nil (later_members xs b)) in
          record {
            conns = rw (← e, same, rest.conns) refl;
            apart = λ z below. rest.apart z (omega (arith, below, rising.0));
            some = rest.some;
          }

      by : (t : Bool) (last : Option Current) → of_one_pair s b ≡ t → current_in (pair_of_segment s) bs ≡ last → further last (cond t (Some (here_of b)) None) ≡ Some x
          → o ≡ last_or before (cond t (b ∷ filter (of_one_pair s) bs) (filter (of_one_pair s) bs))
          → ((y : Current) (before : Option IndexedSegment) → current_in (pair_of_segment s) bs ≡ Some y → o ≡ last_or before (filter (of_one_pair s) bs) → GrowsAt c xs s o y (k + 1) (b.index + 1) bs)
          → GrowsAt c xs s o x k m (b ∷ bs)
      by true (Some y) one last same is rest = later y (same_Some _ _ same) (rest y (Some b) last is)
      by false (Some y) one last same is rest = later y (same_Some _ _ same) (rest y before last is)
      by false None one last same is rest = absurd cc
      by true None one last same is rest =
          let e : here_of b ≡ x = same_Some _ _ same in
          let at : o ≡ Some b = is ∙ ap (λ ys. last_or (Some b) ys) (none_of (pair_of_segment s) bs last) in
          let itself : is_at b o ≡ true = ap (λ y. is_at b y) at ∙ eq-eqb b.index b.index refl in
          let other : (z : IndexedSegment) → (b.index ≡ z.index → ⊥) → is_at z o ≡ false = λ z ne. ap (λ y. is_at z y) at ∙ ne_eqb b.index z.index ne in
          let mine : later_members (with_next xs s) b ≡ later_members xs b ++ s ∷ [] = each.0 ∙ ap (λ t. later_members xs b ++ more_of t s) itself in
          let apart = all_weaker (λ z. b.index + 1 ≤ z.index) (λ z. is_at z o ≡ false) (λ z behind. other z (λ same. omega arith)) bs (AreFrom-rising (b.index + 1) bs rising.1) in
          record {
            conns =
                rw (
                  ← e,
                  mine,
                  map_push (member_in c b.timed.fields.from) (later_members xs b) s,
                  member-kept c b s (one_pair-from b s (sym (one_pair-is s b one))),
                  same_conns (k + 1) bs each.1 apart,
                ) refl;
            apart = λ z below. other z (λ same. omega (arith, below, rising.0, same));
            some = ap (λ y. is_none y) at;
          }

-- ---- what has grown of a capture's segments

abbrev last_opening : List IndexedSegment → Pair → Option Opening
last_opening xs p = option_map opened (last_of (openings xs p))

abbrev opening_in : Option Current → Option Opening
opening_in last = option_map (λ (x : Current). x.opening) last

-- the connections, the unopened segments and the last connection of each pair are those of the filters, and its opening is the
-- last one of the pair
record Shows (c : CaptureView) (xs : List IndexedSegment) (g : GrownView) : Type 0 where
  conns : g.conns ≡ map (conn_in c) (indexed_connections xs)
  unopened : g.unopened ≡ unopened_count xs
  current : (p : Pair) → g.current p ≡ current_in p (beginnings xs)
  opening : (p : Pair) → last_opening xs p ≡ opening_in (g.current p)
  rising : IsRising 0 (beginnings xs)

rising_push : (m : ℕ) (bs : List IndexedSegment) (s : IndexedSegment) → IsRising m bs → AreBelow s.index bs → m ≤ s.index → IsRising m (bs ++ s ∷ [])
rising_push m [] s rising below from = (from, tt)
rising_push m (b ∷ bs) s rising below from = (rising.0, rising_push (b.index + 1) bs s rising.1 below.1 (omega (arith, below.0)))

again-kept : (s : IndexedSegment) (o : Option IndexedSegment) → ((x : IndexedSegment) → o ≡ Some x → of_one_pair s x ≡ true) → is_again (option_map opened o) (opened s) ≡ repeats o s
again-kept s None one = refl
again-kept s (Some x) one = ap (λ b. b && (x.timed.fields.seq == s.timed.fields.seq)) (same_sender x s (one x refl))

-- a repeat has the same sender and sequence number
again-is : (o : Option Opening) (x : Opening) → is_again o x ≡ true → o ≡ Some x
again-is None x same = absurd cc
again-is (Some last) x same =
    let parts = and_parts (beq last.from_low x.from_low) (last.seq == x.seq) same in
    let opening : Bool → ℕ → Opening = λ from_low seq. record { from_low = from_low; seq = seq } in
    ap (λ (o : Opening). Some o) (ap (λ b. opening b last.seq) ((booleans_Decides last.from_low x.from_low).0 parts.0) ∙ ap (λ n. opening x.from_low n) (eqb-true last.seq x.seq parts.1))

module _ (c : CaptureView) (xs : List IndexedSegment) (s : IndexedSegment) (g : GrownView) (below : AreBelow s.index xs) (is : Shows c xs g) where
  abbrev ys : List IndexedSegment
  ys = with_next xs s

  abbrev k : KeptSegment
  k = kept_in c s

  abbrev bs : List IndexedSegment
  bs = beginnings xs

  count : length g.conns ≡ length bs
  unfolding indexed_connections
  count = ap (λ cs. length cs) is.conns ∙ length-map (map (indexed_connection_of xs) (enumerate_from 0 bs)) (conn_in c) ∙ length-map (enumerate_from 0 bs) (indexed_connection_of xs) ∙ length-enumerate_from 0 bs

  begins-kept : begins (g.current (pair_of_segment s)) k ≡ begins_in ys s
  begins-kept =
      let P : IndexedSegment → Bool = λ x. is_opening x && of_one_pair s x in
      let one : (x : IndexedSegment) → last_of (filter P xs) ≡ Some x → of_one_pair s x ≡ true = λ x last. (and_parts (is_opening x) (of_one_pair s x) (last_passes P xs x last)).1 in
      ap (λ o. is_opening s && not (is_again o (opened s))) (sym (is.opening (pair_of_segment s))) ∙ ap (λ b. is_opening s && not b) (again-kept s (last_of (filter P xs)) one) ∙ sym (begins_next xs s below)

  opening_next : (p : Pair) → last_opening ys p ≡ cond (is_opening s && same_pair (pair_of_segment s) p) (Some (opened s)) (last_opening xs p)
  opening_next p =
      ap (λ o. option_map opened o) (last_or-push None (λ x. is_opening x && same_pair (pair_of_segment x) p) xs s) ∙ by_test (is_opening s && same_pair (pair_of_segment s) p)
    where
      by_test : (t : Bool) → option_map opened (cond t (Some s) (last_of (openings xs p))) ≡ cond t (Some (opened s)) (option_map opened (last_of (openings xs p)))
      by_test true = refl
      by_test false = refl

  -- ---- it begins a connection

  begun : begins_in ys s ≡ true → Shows c ys (grown_begun g k)
  unfolding indexed_connections
  begun begins = record {
    conns = sym (
        ap (λ bs. conns_to c ys (enumerate_from 0 bs)) more ∙ ap (λ es. conns_to c ys es) (enumerate_from-append 0 bs (s ∷ []))
        ∙ ap (λ ks. map (conn_in c) ks) (map-append (indexed_connection_of ys) (enumerate_from 0 bs) ((0 + length bs, s) ∷ []))
        ∙ map-append (conn_in c) (map (indexed_connection_of ys) (enumerate_from 0 bs)) (indexed_connection_of ys (0 + length bs, s) ∷ [])
        ∙ ap₂ (λ cs x. cs ++ x ∷ []) (same_conns c xs s (Some s) 0 bs (takes c xs s (Some s) below mine) apart ∙ sym is.conns) last);
    unopened = is.unopened ∙ sym (unopened_next xs s below ∙ rw mine (omega arith));
    current = λ p.
        ap₂ (λ n o. cond (same_pair (pair_of_segment s) p) (Some (record { number = n; opening = opened s })) o) count (is.current p)
        ∙ sym (ap (λ bs. current_in p bs) more ∙ current_in-push p bs s);
    opening = λ p. opening_next p ∙ by_pair (is_opening s) (same_pair (pair_of_segment s) p) p opens;
    rising = subst (IsRising 0) (sym more) (rising_push 0 bs s is.rising (begun_below s.index xs below) (omega arith));
  }
    where
      more : beginnings ys ≡ bs ++ s ∷ []
      more = beginnings_next xs s below ∙ ap (λ t. bs ++ more_of t s) begins

      mine : beginning_of ys s ≡ Some s
      mine = belongs_next xs s below ∙ ap (λ t. cond t (Some s) (last_of (filter (of_one_pair s) bs))) begins

      apart : AllByRecursion (λ b. is_at b (Some s) ≡ false) bs
      apart = all_weaker (λ b. b.index < s.index) (λ b. is_at b (Some s) ≡ false) (λ b behind. ne_eqb s.index b.index (λ same. omega arith)) bs (begun_below s.index xs below)

      own : later_members ys s ≡ []
      own =
          let Q : IndexedSegment → Bool = λ x. nat_lt s.index x.index && is_at s (beginning_of ys x) in
          let upto = all_push (λ x. x.index ≤ s.index) xs s (all_weaker (λ x. x.index < s.index) (λ x. x.index ≤ s.index) (λ x is. omega arith) xs below) (omega arith) in
          filter_none Q ys (all_weaker (λ x. x.index ≤ s.index) (λ x. Q x ≡ false) (λ x le. rw (le-ltb s.index x.index le) refl) ys upto)

      last : conn_in c (indexed_connection_of ys (0 + length bs, s)) ≡ conn_with (length g.conns) k
      last =
          let number : 0 + length bs ≡ length g.conns = omega (arith, count) in
          ap₂ (λ n segs. conn_in c (record { number = n; opening = s; later = segs })) number own ∙ sym (conn-kept c (length g.conns) s)

      opens : is_opening s ≡ true
      opens = (and_parts (is_opening s) (not (repeats (last_of (openings xs (pair_of_segment s))) s)) (sym (begins_next xs s below) ∙ begins)).0

      by_pair : (o t : Bool) (p : Pair) → o ≡ true → cond (o && t) (Some (opened s)) (last_opening xs p) ≡ opening_in (cond t (Some (record { number = length g.conns; opening = opened s })) (g.current p))
      by_pair false t p opens = absurd cc
      by_pair true true p opens = refl
      by_pair true false p opens = is.opening p

  -- ---- it begins none

  module _ (plain : begins_in ys s ≡ false) where
    stays : beginnings ys ≡ bs
    stays = beginnings_next xs s below ∙ ap (λ t. bs ++ more_of t s) plain ∙ append-nil bs

    of_last : beginning_of ys s ≡ last_of (filter (of_one_pair s) bs)
    of_last = belongs_next xs s below ∙ ap (λ t. cond t (Some s) (last_of (filter (of_one_pair s) bs))) plain

    opening_stays : (p : Pair) → last_opening ys p ≡ opening_in (g.current p)
    opening_stays p = opening_next p ∙ by (is_opening s) (same_pair (pair_of_segment s) p) (is_again (opening_in (g.current (pair_of_segment s))) (opened s)) refl refl (begins-kept ∙ plain)
      where
        by : (o t a : Bool) → same_pair (pair_of_segment s) p ≡ t → is_again (opening_in (g.current (pair_of_segment s))) (opened s) ≡ a → (o && not a) ≡ false
            → cond (o && t) (Some (opened s)) (last_opening xs p) ≡ opening_in (g.current p)
        by false t a same again none = is.opening p
        by true false a same again none = is.opening p
        by true true false same again none = absurd cc
        by true true true same again none = sym (ap (λ q. opening_in (g.current q)) (sym (same_pair-is (pair_of_segment s) p same)) ∙ again-is _ _ again)

    shows_plain : (cs : List Conn) (n : ℕ) → cs ≡ conns_to c ys (enumerate_from 0 bs) → n ≡ unopened_count xs + cond (is_none (beginning_of ys s)) 1 0
        → Shows c ys (record { conns = cs; unopened = n; current = g.current })
    unfolding indexed_connections
    shows_plain cs n conns unopened = record {
      conns = conns ∙ ap (λ bs. conns_to c ys (enumerate_from 0 bs)) (sym stays);
      unopened = unopened ∙ sym (unopened_next xs s below);
      current = λ p. is.current p ∙ ap (λ bs. current_in p bs) (sym stays);
      opening = opening_stays;
      rising = subst (IsRising 0) (sym stays) is.rising;
    }

    member : (x : Current) → g.current (pair_of_segment s) ≡ Some x → Shows c ys (grown_plain (Some x) g k)
    unfolding indexed_connections
    member x found =
        let o : Option IndexedSegment = last_of (filter (of_one_pair s) bs) in
        let grown = grows c xs s o x 0 0 None bs is.rising (takes c xs s o below of_last) (sym (is.current (pair_of_segment s)) ∙ found) refl in
        shows_plain (grown_plain (Some x) g k).conns g.unopened
        (ap (λ cs. grown_at x.number (member_from x.opening.from_low k) cs) is.conns ∙ sym grown.conns) (is.unopened ∙ rw (of_last, grown.some) (omega arith))

    alone : g.current (pair_of_segment s) ≡ None → Shows c ys (grown_plain None g k)
    unfolding indexed_connections
    alone none =
        let mine : beginning_of ys s ≡ None = of_last ∙ ap (λ ys. last_of ys) (none_of (pair_of_segment s) bs (sym (is.current (pair_of_segment s)) ∙ none)) in
        let apart = all_weaker (λ b. b.index < s.index) (λ b. is_at b None ≡ false) (λ b behind. refl) bs (begun_below s.index xs below) in
        shows_plain g.conns (g.unopened + 1) (is.conns ∙ sym (same_conns c xs s None 0 bs (takes c xs s None below mine) apart)) (ap (λ n. n + 1) is.unopened ∙ rw mine refl)

  shows_next : Shows c ys (grown_with g k)
  shows_next = rw begins-kept (by (begins_in ys s) (g.current (pair_of_segment s)) refl refl)
    where
      by : (t : Bool) (last : Option Current) → begins_in ys s ≡ t → g.current (pair_of_segment s) ≡ last → Shows c ys (cond t (grown_begun g k) (grown_plain last g k))
      by true last begins found = begun begins
      by false None plain found = alone plain found
      by false (Some x) plain found = member plain x found

-- ---- the table

shows_all : (c : CaptureView) (n : ℕ) (earlier later : List IndexedSegment) (g : GrownView) → AreBelow n earlier → IsRising n later → Shows c earlier g → Shows c (earlier ++ later) (fold grown_with g (map (kept_in c) later))
shows_all c n earlier [] g below rising is = subst (λ xs. Shows c xs g) (sym (append-nil earlier)) is
shows_all c n earlier (s ∷ later) g below rising is =
    let next = shows_next c earlier s g (below_at n s earlier rising.0 below) is in
    subst (λ xs. Shows c xs (fold grown_with g (map (kept_in c) (s ∷ later)))) (append_assoc earlier (s ∷ []) later)
    (shows_all c (s.index + 1) (earlier ++ s ∷ []) later (grown_with g (kept_in c s)) (below_next n s earlier rising.0 below) rising.1 next)

shows_none : (c : CaptureView) → Shows c [] grown_none
unfolding indexed_connections unopened_count beginnings
shows_none c = record { conns = refl; unopened = refl; current = λ p. refl; opening = λ p. refl; rising = tt }

pub tables_agree : TablesAgree
unfolding finished partial_in table_in grown_of
tables_agree c from to carry ordered within =
    let segs : List IndexedSegment = segments_between c from to carry in
    let is = shows_all c from [] segs grown_none tt (rising_between from (packets_between c from to carry)) (shows_none c) in
    rw (is.conns, is.unopened) refl
