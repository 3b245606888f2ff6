-- What is seen of a frame is seen of its head, with usual headers and with others.
use Rattle.std.proofs.Common.{◌≡◌, ◌≤◌, ℕ, ◌+◌, ◌-◌, ◌*◌, ◌/◌, ◌%◌, Bool, true, false, ◌||◌, ◌&&◌, not, nat_lt, nat_le, ◌==◌, if◌then◌else◌, List, drop, length, slice_range, refl, ap, ap₂, ◌∙◌, subst, arith, take, slice_index, sym}
use Rattle.std.proofs.lemmas.List.{length-take, length-drop, take-take, get_or-drop}
use Rattle.frame_headers.specs.Layout.{ethernet_len, link_len, type_len, tag_type, vlan_limit, ipv4_type, ipv4_len, total_len_at, fragment_at, protocol_at, source_at, destination_at, tcp_protocol, tcp_len, to_port_at, seq_at, ack_at, data_offset_at, flags_at}
use Rattle.frame_headers.specs.Frame.{is_tagged, vlan_numbered, vlan_in, datagram_in, header_len, total_len, ip_payload, data_offset, payload_of, short, not_ipv4, bad_ipv4, fragment, not_tcp, cut, bad_tcp, same_ends, segment, frame_class_in, frame_class, segment_fields_in, segment_fields, SeenFrame, link_type, seen_frame}
use Rattle.report_laws.specs.SeenHeads.{zeroed, zeroed_frame, HaveSameFirst, FrameSeesHead}
use Rattle.report_laws.proofs.MappedLists.{Alike, zeroed_same, fewer, dropped, taken, same_index, same_number}
use Rattle.std.proofs.lemmas.Bool.Decides.{nat_tests}
use Rattle.pcap_records.specs.Heads.{head_len, is_usual}

-- ---- frames of equal length that begin with the same bytes are seen alike, except for the bytes of a payload

-- The first bytes that are looked at: of Ethernet's header at most 18, of IPv4's at most 60, and of TCP's 14.
abbrev looked_at : ℕ
looked_at = 92

-- what is seen of a frame; `tagged` says whether it has a tag
abbrev pub seen_in : Bool → List ℕ → SeenFrame
seen_in tagged frame = zeroed_frame (record { class = frame_class_in tagged frame; fields = segment_fields_in tagged frame })

vlans_same : (tagged : Bool) (a b : List ℕ) (m : ℕ) → 16 ≤ m → Alike m a b → vlan_in tagged a ≡ vlan_in tagged b
vlans_same true a b m far x = ap (λ n. vlan_numbered (n % vlan_limit)) (same_number a b 2 ethernet_len m (omega arith) x)
vlans_same false a b m far x = refl

-- datagrams whose first n bytes are the same
module _ (a b : List ℕ) (n : ℕ) (many : 20 ≤ n) (x : Alike n a b) where
  headers_same : header_len a ≡ header_len b
  headers_same = ap (λ first. 4 * (first % 16)) (same_index a b 0 n (omega arith) x)

  totals_same : total_len a ≡ total_len b
  totals_same = same_number a b 2 total_len_at n (omega arith) x

  payloads_alike : header_len a + 14 ≤ n → Alike 14 (ip_payload a) (ip_payload b)
  payloads_alike far =
      let rest : Alike 14 (drop (header_len a) a) (drop (header_len a) b) = dropped a b (header_len a) 14 (fewer a b (header_len a + 14) n far x) in
      subst (λ (ys : List ℕ). Alike 14 (ip_payload a) ys) (ap₂ (slice_range b) headers_same totals_same)
      (taken (drop (header_len a) a) (drop (header_len a) b) (total_len a - header_len a) 14 rest)

module _ (a b : List ℕ) (x : Alike 14 a b) where
  offsets_same : data_offset a ≡ data_offset b
  offsets_same = ap (λ n. 4 * (n / 16)) (same_index a b data_offset_at 14 (omega arith) x)

  zeroed_payloads : zeroed (payload_of a) ≡ zeroed (payload_of b)
  zeroed_payloads =
      let long : (c : List ℕ) → length (payload_of c) ≡ length c - data_offset c = λ c. omega (arith, length-take (length c - data_offset c) (drop (data_offset c) c), length-drop (data_offset c) c) in
      zeroed_same (payload_of a) (payload_of b) (omega (arith, long a, long b, x.long, offsets_same))

-- frames with the same Ethernet and IPv4 headers, and TCP headers up to their flags
pub seen_alike : (tagged : Bool) (a b : List ℕ) (m n : ℕ) → 20 ≤ n → link_len tagged + n ≤ m → header_len (datagram_in tagged a) + 14 ≤ n → Alike m a b → seen_in tagged a ≡ seen_in tagged b
seen_alike tagged a b m n many room far x =
    let ip = datagram_in tagged a in
    let ip' = datagram_in tagged b in
    let tcp = ip_payload ip in
    let tcp' = ip_payload ip' in
    let d = dropped a b (link_len tagged) n (fewer a b (link_len tagged + n) m room x) in
    let t = payloads_alike ip ip' n many d far in
    let type = same_number a b 2 (link_len tagged - type_len) m (omega (arith, many, room)) x in
    let first = same_index ip ip' 0 n (omega arith) d in
    let total = totals_same ip ip' n many d in
    let bits = same_number ip ip' 2 fragment_at n (omega arith) d in
    let protocol = same_index ip ip' protocol_at n (omega arith) d in
    let source = same_number ip ip' 4 source_at n (omega arith) d in
    let destination = same_number ip ip' 4 destination_at n (omega arith) d in
    let offset = offsets_same tcp tcp' t in
    let from = same_number tcp tcp' 2 0 14 (omega arith) t in
    let to = same_number tcp tcp' 2 to_port_at 14 (omega arith) t in
    λ i. record {
      class =
          if nat_lt (x.long i) (link_len tagged) then short
          else if not (type i == ipv4_type) then not_ipv4
          else if nat_lt (d.long i) ipv4_len || not (first i / 16 == 4) || nat_lt (4 * (first i % 16)) ipv4_len || nat_lt (total i) (4 * (first i % 16)) then bad_ipv4
          else if not (bits i % 16384 == 0) then fragment
          else if not (protocol i == tcp_protocol) then not_tcp
          else if nat_lt (d.long i) (total i) then cut
          else if nat_lt (t.long i) tcp_len || nat_lt (offset i) tcp_len || nat_lt (t.long i) (offset i) then bad_tcp
          else if source i == destination i && from i == to i then same_ends
          else segment;
      fields = record {
        mac_from = (dropped a b 6 6 (fewer a b 12 m (omega arith) x)).first i;
        mac_to = (fewer a b 6 m (omega arith) x).first i;
        vlan = vlans_same tagged a b m (omega arith) x i;
        from = record { addr = source i; port = from i };
        to = record { addr = destination i; port = to i };
        seq = same_number tcp tcp' 4 seq_at 14 (omega arith) t i;
        ack = same_number tcp tcp' 4 ack_at 14 (omega arith) t i;
        flags = same_index tcp tcp' flags_at 14 (omega arith) t i;
        payload = zeroed_payloads tcp tcp' t i;
      };
    }

pub frames_same : (a b : List ℕ) → Alike looked_at a b
    → zeroed_frame (record { class = frame_class a; fields = segment_fields a }) ≡ zeroed_frame (record { class = frame_class b; fields = segment_fields b })
unfolding frame_class segment_fields
frames_same a b x =
    let type = same_number a b 2 12 looked_at (omega arith) x in
    let tags : is_tagged a ≡ is_tagged b = λ i. nat_le ethernet_len (x.long i) && type i == tag_type in
    let room : (t : Bool) → link_len t + 74 ≤ looked_at = elim [ true ↦ omega arith | false ↦ omega arith ] in
    ap (λ tagged. seen_in tagged a) tags ∙ seen_alike (is_tagged b) a b looked_at 74 (omega arith) (room (is_tagged b)) (omega arith) x

-- ---- usual headers

module _ (a : List ℕ) (usual : is_usual a ≡ true) where
  type_high : slice_index a 12 ≡ 8
  type_high = grind (arith, nat_tests, usual)

  type_low : slice_index a 13 ≡ 0
  type_low = grind (arith, nat_tests, usual)

  first_of_ipv4 : slice_index a 14 ≡ 69
  first_of_ipv4 = grind (arith, nat_tests, usual)

  usual_type : link_type false a ≡ 2048
  usual_type = omega (arith, type_high, type_low, get_or-drop 12 a 0 0, get_or-drop 12 a 1 0)

  not_tagged : is_tagged a ≡ false
  not_tagged = grind (arith, nat_tests, usual_type)

  usual_len : header_len (datagram_in false a) ≡ 20
  usual_len = ap (λ first. 4 * (first % 16)) (get_or-drop 14 a 0 0 ∙ first_of_ipv4)

usual_same : (a b : List ℕ) → is_usual a ≡ true → is_usual b ≡ true → Alike 48 a b
    → zeroed_frame (record { class = frame_class a; fields = segment_fields a }) ≡ zeroed_frame (record { class = frame_class b; fields = segment_fields b })
unfolding frame_class segment_fields
usual_same a b one other x =
    ap (λ tagged. seen_in tagged a) (not_tagged a one)
    ∙ seen_alike false a b 48 34 (omega arith) (omega arith) (omega (arith, usual_len a one)) x
    ∙ sym (ap (λ tagged. seen_in tagged b) (not_tagged b other))

-- ---- any headers

len_least : (a : List ℕ) → 48 ≤ head_len a
unfolding head_len
len_least a = elim (is_usual a) as (λ usual. 48 ≤ (if usual then 48 else 98)) [ true ↦ omega arith | false ↦ omega arith ]

len_other : (a : List ℕ) → is_usual a ≡ false → head_len a ≡ 98
unfolding head_len
len_other a other = ap (λ (usual : Bool). if usual then 48 else 98) other

module _ (kept : List ℕ → ℕ) (least : (p : List ℕ) → 48 ≤ kept p) (others : (p : List ℕ) → is_usual p ≡ false → 92 ≤ kept p) (a b : List ℕ) (same : HaveSameFirst kept a b) where
  alike : (n : ℕ) → n ≤ kept a → n ≤ kept b → Alike n a b
  alike n one other = record {
    first = sym (take-take n (kept a) a one) ∙ ap (take n) same.first ∙ take-take n (kept b) b other;
    long = same.long;
  }

  both_usual : is_usual a ≡ is_usual b
  both_usual =
      let x = alike 48 (least a) (least b) in
      λ i. same_index a b 12 48 (omega arith) x i == 8 && (same_index a b 13 48 (omega arith) x i == 0 && same_index a b 14 48 (omega arith) x i == 69)

  seen_by : (usual : Bool) → is_usual a ≡ usual → zeroed_frame (seen_frame a) ≡ zeroed_frame (seen_frame b)
  seen_by true is = usual_same a b is (sym both_usual ∙ is) (alike 48 (least a) (least b))
  seen_by false is = frames_same a b (alike 92 (others a is) (others b (sym both_usual ∙ is)))

pub frame_sees_head : FrameSeesHead
frame_sees_head a b same = seen_by _ (λ p. omega (arith, len_least p)) (λ p other. omega (arith, len_other p other)) a b same (is_usual a) refl
