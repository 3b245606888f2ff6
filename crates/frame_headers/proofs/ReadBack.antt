-- Written headers are read back.
use Rattle.std.proofs.Common.{◌≡◌, ◌≢◌, ◌<◌, ℕ, ◌+◌, ◌-◌, ◌%◌, ◌≤◌, Bool, true, false, eqb, ◌==◌, ◌&&◌, Option, Some, None, is_some, List, [], ◌∷◌, ◌++◌, length, take, drop, slice_index, slice_range, refl, ap, ◌∙◌, arith, length-append, length-drop, take_all}
use Rattle.std.proofs.lemmas.Bool.{le-ltb, le-leb, ne_eqb, eqb-true}
use Rattle.byteorder.specs.Numbers.{big_number-reads_back}
use Rattle.frame_headers.specs.Frame.{number_at, link_type, is_tagged, vlan_numbered, vlan_in, datagram_in, ip_payload, frame_class, frame_class_in, segment_fields, segment, is_short, is_not_ipv4, is_bad_ipv4, is_fragment, is_not_tcp, is_cut, is_bad_tcp, is_same_ends}
use Rattle.frame_headers.specs.Headers.{headers, link_bytes, ipv4, tcp}
use Rattle.frame_headers.specs.HeaderLaws.{IsHeader, IsVlan, IsReadBack, SumsToNothing, fields_with, HeadersAreSound}
use Rattle.frame_headers.specs.declared.peers.Peer.{Peer}
use Rattle.frame_headers.specs.declared.written.Header.{Header}
use Rattle.frame_headers.proofs.FilledSums.{sum16-ipv4, tcp_sum-tcp}
use Rattle.frame_headers.specs.Layout.{ethernet_len, link_len, vlan_limit, source_at, destination_at, to_port_at, seq_at, ack_at, data_offset_at, headers_len, payload_limit}

-- what stands at the places of a frame of a VLAN, or of none, with this header and payload
record Reads (vlan : Option ℕ) (to from : List ℕ) (h : Header) (bytes frame : List ℕ) : Type 0 where
  len : length frame ≡ headers_len vlan + length bytes
  mac_to : slice_range frame 0 6 ≡ to
  mac_from : slice_range frame 6 12 ≡ from
  tagged : is_tagged frame ≡ is_some vlan
  number : IsVlan vlan → vlan_in (is_some vlan) frame ≡ vlan
  link_type : link_type (is_some vlan) frame ≡ 2048
  first : slice_index (datagram_in (is_some vlan) frame) 0 ≡ 69
  total : number_at 2 2 (datagram_in (is_some vlan) frame) ≡ 40 + length bytes
  fragment : number_at 2 6 (datagram_in (is_some vlan) frame) ≡ 16384
  protocol : slice_index (datagram_in (is_some vlan) frame) 9 ≡ 6
  source : number_at 4 12 (datagram_in (is_some vlan) frame) ≡ h.from.addr
  destination : number_at 4 16 (datagram_in (is_some vlan) frame) ≡ h.to.addr
  ip : slice_range (datagram_in (is_some vlan) frame) 0 20 ≡ ipv4 h (20 + length bytes)
  segment : drop 20 (datagram_in (is_some vlan) frame) ≡ tcp h bytes ++ bytes
  from_port : number_at 2 0 (tcp h bytes ++ bytes) ≡ h.from.port
  to_port : number_at 2 2 (tcp h bytes ++ bytes) ≡ h.to.port
  seq : number_at 4 4 (tcp h bytes ++ bytes) ≡ h.seq
  ack : number_at 4 8 (tcp h bytes ++ bytes) ≡ h.ack
  offset : slice_index (tcp h bytes ++ bytes) 12 ≡ 80
  flags : slice_index (tcp h bytes ++ bytes) 13 ≡ h.flags
  segment_len : length (tcp h bytes ++ bytes) ≡ 20 + length bytes
  payload : drop 20 (tcp h bytes ++ bytes) ≡ bytes

abbrev frame_between : Option ℕ → List ℕ → List ℕ → Header → List ℕ → List ℕ
frame_between vlan to from h bytes =
    ((((to ++ from) ++ link_bytes vlan) ++ ipv4 h (20 + length bytes)) ++ tcp h bytes) ++ bytes

six : (P : List ℕ → Type 0) → ((a b c d e f : ℕ) → P (a ∷ b ∷ c ∷ d ∷ e ∷ f ∷ [])) → (xs : List ℕ) → length xs ≡ 6 → P xs
six P p (a ∷ b ∷ c ∷ d ∷ e ∷ f ∷ []) l = p a b c d e f
six P p [] l = absurd (omega arith)
six P p (a ∷ []) l = absurd (omega arith)
six P p (a ∷ b ∷ []) l = absurd (omega arith)
six P p (a ∷ b ∷ c ∷ []) l = absurd (omega arith)
six P p (a ∷ b ∷ c ∷ d ∷ []) l = absurd (omega arith)
six P p (a ∷ b ∷ c ∷ d ∷ e ∷ []) l = absurd (omega arith)
six P p (a ∷ b ∷ c ∷ d ∷ e ∷ f ∷ g ∷ xs) l = absurd (omega arith)

numbered : (v : ℕ) → 0 < v → v < vlan_limit → (n : ℕ) → n ≡ v → vlan_numbered (n % vlan_limit) ≡ Some v
numbered v some limited n is =
    let same : n % vlan_limit ≡ v = omega arith in
    let test : (v == 0) ≡ false = ne_eqb v 0 (omega arith) in
    rw (same, test) refl

reads_bytes : (vlan : Option ℕ) (h : Header) (bytes : List ℕ) → IsHeader h → length bytes ≤ payload_limit → (a b c d e f i j k l m n : ℕ)
    → let to : List ℕ = a ∷ b ∷ c ∷ d ∷ e ∷ f ∷ [] in let from : List ℕ = i ∷ j ∷ k ∷ l ∷ m ∷ n ∷ [] in Reads vlan to from h bytes (frame_between vlan to from h bytes)
unfolding ipv4 tcp
reads_bytes None h bytes r small a b c d e f i j k l m n =
    let frame : List ℕ = frame_between None (a ∷ b ∷ c ∷ d ∷ e ∷ f ∷ []) (i ∷ j ∷ k ∷ l ∷ m ∷ n ∷ []) h bytes in
    let segment : List ℕ = tcp h bytes ++ bytes in
    record {
      len = omega arith;
      mac_to = refl;
      mac_from = refl;
      tagged = rw (le-leb ethernet_len (length frame) (omega arith)) refl;
      number = λ is. refl;
      link_type = refl;
      first = refl;
      total = omega arith;
      fragment = refl;
      protocol = refl;
      source = big_number-reads_back 4 h.from.addr (drop (link_len false + source_at + 4) frame) (omega (arith, r.from_addr));
      destination = big_number-reads_back 4 h.to.addr (drop (link_len false + destination_at + 4) frame) (omega (arith, r.to_addr));
      ip = refl;
      segment = refl;
      from_port = big_number-reads_back 2 h.from.port (drop to_port_at segment) (omega (arith, r.from_port));
      to_port = big_number-reads_back 2 h.to.port (drop seq_at segment) (omega (arith, r.to_port));
      seq = big_number-reads_back 4 h.seq (drop ack_at segment) (omega (arith, r.seq));
      ack = big_number-reads_back 4 h.ack (drop data_offset_at segment) (omega (arith, r.ack));
      offset = omega (arith, r.flags);
      flags = omega (arith, r.flags);
      segment_len = omega arith;
      payload = refl;
    }
reads_bytes (Some v) h bytes r small a b c d e f i j k l m n =
    let frame : List ℕ = frame_between (Some v) (a ∷ b ∷ c ∷ d ∷ e ∷ f ∷ []) (i ∷ j ∷ k ∷ l ∷ m ∷ n ∷ []) h bytes in
    let segment : List ℕ = tcp h bytes ++ bytes in
    record {
      len = omega arith;
      mac_to = refl;
      mac_from = refl;
      tagged = rw (le-leb ethernet_len (length frame) (omega arith)) refl;
      number = λ is. numbered v is.some is.limited (number_at 2 ethernet_len frame) (big_number-reads_back 2 v (drop (ethernet_len + 2) frame) (omega (arith, is.limited)));
      link_type = refl;
      first = refl;
      total = omega arith;
      fragment = refl;
      protocol = refl;
      source = big_number-reads_back 4 h.from.addr (drop (link_len true + source_at + 4) frame) (omega (arith, r.from_addr));
      destination = big_number-reads_back 4 h.to.addr (drop (link_len true + destination_at + 4) frame) (omega (arith, r.to_addr));
      ip = refl;
      segment = refl;
      from_port = big_number-reads_back 2 h.from.port (drop to_port_at segment) (omega (arith, r.from_port));
      to_port = big_number-reads_back 2 h.to.port (drop seq_at segment) (omega (arith, r.to_port));
      seq = big_number-reads_back 4 h.seq (drop ack_at segment) (omega (arith, r.seq));
      ack = big_number-reads_back 4 h.ack (drop data_offset_at segment) (omega (arith, r.ack));
      offset = omega (arith, r.flags);
      flags = omega (arith, r.flags);
      segment_len = omega arith;
      payload = refl;
    }

reads : (h : Header) (bytes : List ℕ) → IsHeader h → length bytes ≤ payload_limit → Reads h.vlan h.mac_to h.mac_from h bytes (headers h bytes ++ bytes)
unfolding headers
reads h bytes r small =
    six (λ to. Reads h.vlan to h.mac_from h bytes (frame_between h.vlan to h.mac_from h bytes)) (λ a b c d e f.
    six (λ from. Reads h.vlan (a ∷ b ∷ c ∷ d ∷ e ∷ f ∷ []) from h bytes (frame_between h.vlan (a ∷ b ∷ c ∷ d ∷ e ∷ f ∷ []) from h bytes)) (λ i j k l m n.
    reads_bytes h.vlan h bytes r small a b c d e f i j k l m n) h.mac_from r.mac_from) h.mac_to r.mac_to

carried_is : (vlan : Option ℕ) (to from : List ℕ) (h : Header) (bytes frame : List ℕ) → Reads vlan to from h bytes frame → ip_payload (datagram_in (is_some vlan) frame) ≡ tcp h bytes ++ bytes
carried_is vlan to from h bytes frame r =
    let all : take (40 + length bytes - 20) (tcp h bytes ++ bytes) ≡ tcp h bytes ++ bytes = take_all (40 + length bytes - 20) (tcp h bytes ++ bytes) (omega (arith, r.segment_len)) in
    rw (r.first, r.total, r.segment, all) refl

fields_read : (h : Header) (bytes frame : List ℕ) → Reads h.vlan h.mac_to h.mac_from h bytes frame → IsVlan h.vlan → segment_fields frame ≡ fields_with h bytes
unfolding segment_fields
fields_read h bytes frame r vlan =
    let tcp_bytes = carried_is h.vlan h.mac_to h.mac_from h bytes frame r in
    let all : take (length (tcp h bytes ++ bytes) - 20) bytes ≡ bytes = take_all (length (tcp h bytes ++ bytes) - 20) bytes (omega (arith, r.segment_len)) in
    rw (r.tagged, tcp_bytes, r.mac_to, r.mac_from, r.number vlan, r.source, r.destination, r.from_port, r.to_port, r.seq, r.ack, r.flags, r.offset, r.payload, all) refl

pub sums_filled : (h : Header) (bytes : List ℕ) → IsHeader h → length bytes ≤ payload_limit → SumsToNothing h (headers h bytes ++ bytes)
sums_filled h bytes r small =
    let at = reads h bytes r small in
    record { ipv4 = rw (at.tagged, at.ip) (sum16-ipv4 h (20 + length bytes)); tcp = rw (at.tagged, at.segment) (tcp_sum-tcp h bytes) }

same_peer : (x y : Peer) → x.addr ≡ y.addr → x.port ≡ y.port → x ≡ y
same_peer x y a p = ap (λ n. let z : Peer = record { addr = n; port = x.port } in z) a ∙ ap (λ n. let z : Peer = record { addr = y.addr; port = n } in z) p

differ : (x y : Peer) → x ≢ y → (eqb x.addr y.addr && eqb x.port y.port) ≡ false
differ x y n = by_tests (eqb x.addr y.addr) (eqb x.port y.port) refl refl
  where
    by_tests : (a p : Bool) → eqb x.addr y.addr ≡ a → eqb x.port y.port ≡ p → (a && p) ≡ false
    by_tests true true a p = absurd (n (same_peer x y (eqb-true x.addr y.addr a) (eqb-true x.port y.port p)))
    by_tests true false a p = refl
    by_tests false p a q = refl

no_test : (tagged : Bool) (frame : List ℕ) → is_short tagged frame ≡ false → is_not_ipv4 tagged frame ≡ false → is_bad_ipv4 (datagram_in tagged frame) ≡ false → is_fragment (datagram_in tagged frame) ≡ false → is_not_tcp (datagram_in tagged frame) ≡ false → is_cut (datagram_in tagged frame) ≡ false → is_bad_tcp (ip_payload (datagram_in tagged frame)) ≡ false → is_same_ends (datagram_in tagged frame) ≡ false → frame_class_in tagged frame ≡ segment
no_test tagged frame a b c d e f g h = rw (a, b, c, d, e, f, g, h) refl

frame_class_read : (h : Header) (bytes frame : List ℕ) → Reads h.vlan h.mac_to h.mac_from h bytes frame → h.from ≢ h.to → frame_class frame ≡ segment
unfolding frame_class
frame_class_read h bytes frame r n =
    let tagged : Bool = is_some h.vlan in
    let ip : List ℕ = datagram_in tagged frame in
    let tcp_bytes = carried_is h.vlan h.mac_to h.mac_from h bytes frame r in
    let rest = length-drop (link_len tagged) frame in
    ap (λ b. frame_class_in b frame) r.tagged
    ∙ no_test tagged frame (le-ltb (length frame) (link_len tagged) (omega (arith, r.len))) (rw r.link_type refl)
    (rw (le-ltb (length ip) 20 (omega (arith, r.len)), r.first, le-ltb (number_at 2 2 ip) 20 (omega (arith, r.total))) refl)
    (rw r.fragment refl)
    (rw r.protocol refl)
    (le-ltb (length ip) (number_at 2 2 ip) (omega (arith, r.len, r.total)))
    (rw (tcp_bytes, r.offset, le-ltb (length (tcp h bytes ++ bytes)) 20 (omega (arith, r.segment_len))) refl)
    (rw (tcp_bytes, r.source, r.destination, r.from_port, r.to_port) (differ h.from h.to n))

pub read_back : (h : Header) (bytes : List ℕ) → IsHeader h → length bytes ≤ payload_limit → IsVlan h.vlan → IsReadBack h bytes (headers h bytes ++ bytes)
read_back h bytes r small vlan =
    let at = reads h bytes r small in
    record { fields = fields_read h bytes (headers h bytes ++ bytes) at vlan; class = frame_class_read h bytes (headers h bytes ++ bytes) at }

pub length-headers : (h : Header) (bytes : List ℕ) → IsHeader h → length bytes ≤ payload_limit → length (headers h bytes) ≡ headers_len h.vlan
length-headers h bytes r small =
    let at = reads h bytes r small in
    omega (arith, at.len, length-append (headers h bytes) bytes)

pub headers_are_sound : HeadersAreSound
headers_are_sound h bytes is small = (length-headers h bytes is small, sums_filled h bytes is small, read_back h bytes is small)
