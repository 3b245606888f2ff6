-- Peers and pairs: when two are the same, and who sends a segment of a pair.
use Rattle.std.proofs.Common.{◌≡◌, ℕ, ◌==◌, ◌&&◌, Bool, true, false, not, Option, Some, None, List, cond, refl, sym, ap, ◌∙◌, rules}
use Rattle.std.specs.Bool.{beq}
use Rattle.std.proofs.lemmas.Bool.{and_parts, eqb-true, false_from_ne_true}
use Rattle.frame_headers.specs.declared.peers.Peer.{Peer}
use Rattle.frame_headers.specs.Frame.{FrameClass, short, not_ipv4, bad_ipv4, fragment, not_tcp, cut, bad_tcp, same_ends, segment, frame_class, segment_fields, is_tagged, is_short, is_not_ipv4, is_bad_ipv4, is_fragment, is_not_tcp, is_cut, is_bad_tcp, is_same_ends, datagram, ip_payload}
use Rattle.conn_table.specs.declared.conns.Pair.{Pair}
use Rattle.conn_table.specs.IndexedSegments.{IndexedSegment, is_segment, same_peer, peer_le, same_vlan, same_pair, pair_of, pair_of_segment}
use Rattle.conn_table.specs.Connections.{of_one_pair}

-- ---- the same

pub same_peer-is : (a b : Peer) → same_peer a b ≡ true → a ≡ b
same_peer-is a b same =
    let parts = and_parts (a.addr == b.addr) (a.port == b.port) same in
    let peer : ℕ → ℕ → Peer = λ addr port. record { addr = addr; port = port } in
    ap (λ n. peer n a.port) (eqb-true a.addr b.addr parts.0) ∙ ap (λ n. peer b.addr n) (eqb-true a.port b.port parts.1)

pub same_peer-itself : (p : Peer) → same_peer p p ≡ true
same_peer-itself p = search rules

pub same_peer-sym : (a b : Peer) → same_peer a b ≡ false → same_peer b a ≡ false
same_peer-sym a b other = false_from_ne_true (same_peer b a) (λ same. let e : b ≡ a = same_peer-is b a same in let is : same_peer a b ≡ true = rw e (same_peer-itself a) in cc)

same_vlan-is : (v w : Option ℕ) → same_vlan v w ≡ true → v ≡ w
same_vlan-is None None same = refl
same_vlan-is (Some v) (Some w) same = ap Some (eqb-true v w same)
same_vlan-is None (Some w) same = absurd cc
same_vlan-is (Some v) None same = absurd cc

same_vlan-itself : (v : Option ℕ) → same_vlan v v ≡ true
same_vlan-itself None = refl
same_vlan-itself (Some v) = search rules

pub same_pair-is : (p q : Pair) → same_pair p q ≡ true → p ≡ q
same_pair-is p q same =
    let parts = and_parts (same_vlan p.vlan q.vlan) (same_peer p.low q.low && same_peer p.high q.high) same in
    let peers = and_parts (same_peer p.low q.low) (same_peer p.high q.high) parts.1 in
    let pair : Option ℕ → Peer → Peer → Pair = λ vlan low high. record { vlan = vlan; low = low; high = high } in
    ap (λ v. pair v p.low p.high) (same_vlan-is p.vlan q.vlan parts.0) ∙ ap (λ x. pair q.vlan x p.high) (same_peer-is p.low q.low peers.0) ∙ ap (λ x. pair q.vlan q.low x) (same_peer-is p.high q.high peers.1)

pub same_pair-itself : (p : Pair) → same_pair p p ≡ true
same_pair-itself p = rw (same_vlan-itself p.vlan, same_peer-itself p.low, same_peer-itself p.high) refl

pub same_pair-sym : (p q : Pair) → same_pair p q ≡ false → same_pair q p ≡ false
same_pair-sym p q other = false_from_ne_true (same_pair q p) (λ same. let e : q ≡ p = same_pair-is q p same in let is : same_pair p q ≡ true = rw e (same_pair-itself p) in cc)

pub one_pair-is : (s x : IndexedSegment) → of_one_pair s x ≡ true → pair_of_segment x ≡ pair_of_segment s
one_pair-is s x same = same_pair-is (pair_of_segment x) (pair_of_segment s) same

pub one_pair-from : (s x : IndexedSegment) → pair_of_segment x ≡ pair_of_segment s → of_one_pair s x ≡ true
one_pair-from s x is = ap (λ p. same_pair p (pair_of_segment s)) is ∙ same_pair-itself (pair_of_segment s)

pub one_pair-itself : (s : IndexedSegment) → of_one_pair s s ≡ true
one_pair-itself s = one_pair-from s s refl

-- ---- the peers of a segment differ

pub class_is : (k : FrameClass) → is_segment k ≡ true → k ≡ segment
class_is short is = absurd cc
class_is not_ipv4 is = absurd cc
class_is bad_ipv4 is = absurd cc
class_is fragment is = absurd cc
class_is not_tcp is = absurd cc
class_is cut is = absurd cc
class_is bad_tcp is = absurd cc
class_is same_ends is = absurd cc
class_is segment is = refl

last_test : (a b c d e f g h : Bool)
    → cond a short (cond b not_ipv4 (cond c bad_ipv4 (cond d fragment (cond e not_tcp (cond f cut (cond g bad_tcp (cond h same_ends segment))))))) ≡ segment
    → h ≡ false
last_test true b c d e f g h is = absurd cc
last_test false true c d e f g h is = absurd cc
last_test false false true d e f g h is = absurd cc
last_test false false false true e f g h is = absurd cc
last_test false false false false true f g h is = absurd cc
last_test false false false false false true g h is = absurd cc
last_test false false false false false false true h is = absurd cc
last_test false false false false false false false true is = absurd cc
last_test false false false false false false false false is = refl

pub peers_differ : (frame : List ℕ) → frame_class frame ≡ segment → same_peer (segment_fields frame).from (segment_fields frame).to ≡ false
unfolding frame_class segment_fields
peers_differ frame is =
    last_test (is_short (is_tagged frame) frame) (is_not_ipv4 (is_tagged frame) frame) (is_bad_ipv4 (datagram frame)) (is_fragment (datagram frame)) (is_not_tcp (datagram frame)) (is_cut (datagram frame)) (is_bad_tcp (ip_payload (datagram frame))) (is_same_ends (datagram frame)) is

-- ---- who sends

-- of two peers that are a pair with a and b, the sender is b if it is not a
pub other_sender : (v w : Option ℕ) (a b from to : Peer) → same_peer a b ≡ false → same_pair (pair_of v from to) (pair_of w a b) ≡ true → same_peer from b ≡ not (same_peer from a)
other_sender v w a b from to differ same =
    let pair = same_pair-is (pair_of v from to) (pair_of w a b) same in
    by_order (peer_le from to) (peer_le a b) (ap (λ (p : Pair). p.low) pair) (ap (λ (p : Pair). p.high) pair)
  where
    is_first : from ≡ a → same_peer from b ≡ not (same_peer from a)
    is_first e = rw (e, differ, same_peer-itself a) refl

    is_second : from ≡ b → same_peer from b ≡ not (same_peer from a)
    is_second e = rw (e, same_peer-sym a b differ, same_peer-itself b) refl

    by_order : (p q : Bool) → cond p from to ≡ cond q a b → cond p to from ≡ cond q b a → same_peer from b ≡ not (same_peer from a)
    by_order true true low high = is_first low
    by_order true false low high = is_second low
    by_order false true low high = is_second high
    by_order false false low high = is_first high

-- a segment whose sender is not the lower peer has another sender than receiver
differ_from_high : (a b : Peer) → peer_le a b ≡ false → same_peer b a ≡ false
differ_from_high a b high = false_from_ne_true (same_peer b a) (λ same. let e : b ≡ a = same_peer-is b a same in let le : peer_le a a ≡ true = search rules in let is : peer_le a b ≡ true = rw e le in cc)

-- whether each is sent by the lower peer tells whether both have one sender
senders : (f t g u : Peer) (a b : Bool) → peer_le f t ≡ a → peer_le g u ≡ b → cond a f t ≡ cond b g u → cond a t f ≡ cond b u g → beq a b ≡ same_peer f g
senders f t g u true true is_a is_b low high = rw low (sym (same_peer-itself g))
senders f t g u true false is_a is_b low high = rw low (sym (differ_from_high g u is_b))
senders f t g u false true is_a is_b low high = rw (← low) (sym (same_peer-sym t f (differ_from_high f t is_a)))
senders f t g u false false is_a is_b low high = rw high (sym (same_peer-itself g))

pub same_sender : (x s : IndexedSegment) → of_one_pair s x ≡ true
    → beq (peer_le x.timed.fields.from x.timed.fields.to) (peer_le s.timed.fields.from s.timed.fields.to) ≡ same_peer x.timed.fields.from s.timed.fields.from
same_sender x s one =
    let pair = one_pair-is s x one in
    senders x.timed.fields.from x.timed.fields.to s.timed.fields.from s.timed.fields.to (peer_le x.timed.fields.from x.timed.fields.to) (peer_le s.timed.fields.from s.timed.fields.to) refl refl (ap (λ (p : Pair). p.low) pair) (ap (λ (p : Pair). p.high) pair)
