-- Who sent a member: the pair of a connection's segments has two peers, which differ.
use Rattle.std.proofs.Common.{◌≡◌, ◌<◌, ◌≤◌, ℕ, ◌+◌, nat_lt, nat_le, ◌&&◌, Bool, true, false, List, [], ◌∷◌, ◌++◌, map, filter, Option, Some, None, refl, sym, ap, subst, ◌∙◌, arith, if◌then◌else◌}
use Rattle.std.specs.List.{AllByRecursion, enumerate_from, zip, filter_map, cons_option}
use Rattle.std.proofs.lemmas.Bool.{and_parts, eqb-true}
use Rattle.std.proofs.lemmas.List.{append_assoc}
use Rattle.lists.proofs.Lists.{all_map, all_append, all_filter, all_weaker}
use Rattle.pcap_records.specs.Instants.{instants}
use Rattle.pcap_records.specs.Reading.{Packet}
use Rattle.frame_headers.specs.Frame.{frame_class, segment_fields}
use Rattle.conn_table.specs.SeenCapture.{seen_packet, seen_packets}
use Rattle.conn_table.specs.IndexedSegments.{IndexedSegment, is_segment, indexed_segment, indexed_segments, same_peer, pair_of_segment}
use Rattle.conn_table.specs.Connections.{Connection, of_one_pair, begins_in, beginnings, beginning_of, is_at, later_members, connection_of, connections}
use Rattle.conn_table.specs.TableFacts.{HasSide, HasSides, MembersHaveSides}
use Rattle.conn_table.proofs.Peers.{same_peer-itself, one_pair-is, one_pair-from, class_is, peers_differ, other_sender}
use Rattle.conn_table.proofs.GroupingFilters.{all_pass, last_has, last_passes}
use Rattle.conn_table.proofs.GroupingOrder.{AreBelow, IsRising, AreFrom-rising, below_at, below_next, rising_between}

-- ---- segments

abbrev HasTwoPeers : IndexedSegment → Type 0
HasTwoPeers s = same_peer s.timed.fields.from s.timed.fields.to ≡ false

segments_have : (n : ℕ) (ts : List ℕ) (ps : List Packet) → AllByRecursion HasTwoPeers (filter_map indexed_segment (enumerate_from n (map seen_packet (zip ts ps))))
segments_have n [] ps = tt
segments_have n (t ∷ ts) [] = tt
segments_have n (t ∷ ts) (p ∷ ps) = by (is_segment (frame_class p.bytes)) refl (segments_have (n + 1) ts ps)
  where
    rest : List IndexedSegment
    rest = filter_map indexed_segment (enumerate_from (n + 1) (map seen_packet (zip ts ps)))

    by : (b : Bool) → is_segment (frame_class p.bytes) ≡ b → AllByRecursion HasTwoPeers rest
        → AllByRecursion HasTwoPeers (cons_option (if b then Some (record { index = n; timed = record { at = t; fields = segment_fields p.bytes } }) else None) rest)
    by true is all = (peers_differ p.bytes (class_is (frame_class p.bytes) is), all)
    by false is all = all

-- ---- connections

-- a segment that has b's number is b
abbrev IsOnly : IndexedSegment → IndexedSegment → Type 0
IsOnly b x = x.index ≡ b.index → x ≡ b

abbrev IsAlone : IndexedSegment → List IndexedSegment → Type 0
IsAlone b = AllByRecursion (IsOnly b)

all_alone : (n : ℕ) (earlier later : List IndexedSegment) → AreBelow n earlier → IsRising n later → AllByRecursion (λ s. IsAlone s (earlier ++ later)) later
all_alone n earlier [] below rising = tt
all_alone n earlier (s ∷ later) below rising =
    let before = all_weaker (λ x. x.index < s.index) (IsOnly s) (λ x is same. absurd (omega arith)) earlier (below_at n s earlier rising.0 below) in
    let after = all_weaker (λ x. s.index + 1 ≤ x.index) (IsOnly s) (λ x is same. absurd (omega arith)) later (AreFrom-rising (s.index + 1) later rising.1) in
    (all_append (IsOnly s) earlier (s ∷ later) before ((λ same. refl), after), subst (λ all. AllByRecursion (λ x. IsAlone x all) later) (append_assoc earlier (s ∷ []) later) (all_alone (s.index + 1) (earlier ++ s ∷ []) later (below_next n s earlier rising.0 below) rising.1))

paired : (segs : List IndexedSegment) (b s : IndexedSegment) → IsAlone b segs → is_at b (beginning_of segs s) ≡ true → of_one_pair b s ≡ true
unfolding beginnings
paired segs b s alone is = by (beginning_of segs s) refl is
  where
    Q : IndexedSegment → Bool
    Q x = of_one_pair s x && nat_le x.index s.index

    bs : List IndexedSegment
    bs = filter (begins_in segs) segs

    by : (o : Option IndexedSegment) → beginning_of segs s ≡ o → is_at b o ≡ true → of_one_pair b s ≡ true
    by None last at = absurd cc
    by (Some y) last at =
        let one = (and_parts (of_one_pair s y) (nat_le y.index s.index) (last_passes Q bs y last)).0 in
        let only : IsOnly b y = last_has (IsOnly b) (filter Q bs) y (all_filter (IsOnly b) Q bs (all_filter (IsOnly b) (begins_in segs) segs alone)) last in
        one_pair-from b s (sym (one_pair-is s y one) ∙ ap (λ (x : IndexedSegment). pair_of_segment x) (only (eqb-true y.index b.index at)))

sides_of : (segs : List IndexedSegment) (k : ℕ) (b : IndexedSegment) → IsAlone b segs → HasTwoPeers b → HasSides (connection_of segs (k, b))
sides_of segs k b alone differ = record {
  opening = rw (differ, same_peer-itself b.timed.fields.from) refl;
  later = all_map (HasSide own) (λ s. s.timed) (later_members segs b) (all_weaker (λ s. Q s ≡ true) (λ s. HasSide own s.timed) later_has (filter Q segs) (all_pass Q segs));
}
  where
    own : Connection
    own = connection_of segs (k, b)

    Q : IndexedSegment → Bool
    Q s = nat_lt b.index s.index && is_at b (beginning_of segs s)

    later_has : (s : IndexedSegment) → Q s ≡ true → HasSide own s.timed
    later_has s passes =
        let one = paired segs b s alone (and_parts (nat_lt b.index s.index) (is_at b (beginning_of segs s)) passes).1 in
        other_sender s.timed.fields.vlan b.timed.fields.vlan b.timed.fields.from b.timed.fields.to s.timed.fields.from s.timed.fields.to differ one

connections_have : (segs : List IndexedSegment) (k : ℕ) (bs : List IndexedSegment) → AllByRecursion (λ b. IsAlone b segs) bs → AllByRecursion HasTwoPeers bs
    → AllByRecursion HasSides (map (connection_of segs) (enumerate_from k bs))
connections_have segs k [] only differ = tt
connections_have segs k (b ∷ bs) only differ = (sides_of segs k b only.0 differ.0, connections_have segs (k + 1) bs only.1 differ.1)

pub members_have_sides : MembersHaveSides
unfolding connections beginnings indexed_segments seen_packets
members_have_sides n carry packets =
    let segs : List IndexedSegment = indexed_segments n (seen_packets carry packets) in
    let differ = segments_have n (instants carry (map (λ p. p.stamp) packets)) packets in
    connections_have segs 0 (filter (begins_in segs) segs)
    (all_filter (λ b. IsAlone b segs) (begins_in segs) segs (all_alone n [] segs tt (rising_between n (seen_packets carry packets))))
    (all_filter HasTwoPeers (begins_in segs) segs differ)
