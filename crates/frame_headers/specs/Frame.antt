-- What a captured Ethernet frame is, and the fields of the TCP segment in it. A frame is the list of its bytes.
use Rattle.std.specs.Prelude.{ℕ, ◌+◌, ◌-◌, ◌*◌, ◌/◌, ◌%◌, List, length, drop, slice_index, slice_range, Bool, true, false, ◌||◌, ◌&&◌, not, nat_lt, nat_le, ◌==◌, Option, Some, None, if◌then◌else◌}
use Rattle.byteorder.specs.Endian.{big_number}
use Rattle.frame_headers.specs.declared.peers.Peer.{Peer}
use Rattle.frame_headers.specs.Layout.{mac_len, ethernet_len, link_len, type_len, tag_type, vlan_limit, ipv4_type, ipv4_len, total_len_at, fragment_at, protocol_at, source_at, destination_at, tcp_protocol, tcp_len, to_port_at, seq_at, ack_at, data_offset_at, flags_at}

-- the number in the n bytes from a place on, the highest byte first
abbrev pub number_at : ℕ → ℕ → List ℕ → ℕ
number_at n place bytes = big_number n (drop place bytes)

-- Ethernet II: two addresses of 6 bytes, a tag if there is one (IEEE 802.1Q), and the type. `tagged` says whether there is a tag.

abbrev pub link_type : Bool → List ℕ → ℕ
link_type tagged frame = number_at 2 (link_len tagged - type_len) frame

abbrev pub is_tagged : List ℕ → Bool
is_tagged frame = nat_le ethernet_len (length frame) && link_type false frame == tag_type

-- a tag with 0 has only a priority
abbrev pub vlan_numbered : ℕ → Option ℕ
vlan_numbered n = if n == 0 then None else Some n

abbrev pub vlan_in : Bool → List ℕ → Option ℕ
vlan_in false frame = None
vlan_in true frame = vlan_numbered (number_at 2 ethernet_len frame % vlan_limit)

abbrev pub datagram_in : Bool → List ℕ → List ℕ
datagram_in tagged frame = drop (link_len tagged) frame

abbrev pub datagram : List ℕ → List ℕ
datagram frame = datagram_in (is_tagged frame) frame

abbrev pub is_short : Bool → List ℕ → Bool
is_short tagged frame = nat_lt (length frame) (link_len tagged)

abbrev pub is_not_ipv4 : Bool → List ℕ → Bool
is_not_ipv4 tagged frame = not (link_type tagged frame == ipv4_type)

-- IPv4 (RFC 791 section 3.1). `ip` is a datagram and whatever stands after it.

abbrev pub version : List ℕ → ℕ
version ip = slice_index ip 0 / 16

abbrev pub header_len : List ℕ → ℕ
header_len ip = 4 * (slice_index ip 0 % 16)

abbrev pub total_len : List ℕ → ℕ
total_len ip = number_at 2 total_len_at ip

-- all but the two highest bits, which are reserved and "don't fragment"
abbrev pub fragment_bits : List ℕ → ℕ
fragment_bits ip = number_at 2 fragment_at ip % 16384

abbrev pub protocol : List ℕ → ℕ
protocol ip = slice_index ip protocol_at

abbrev pub source : List ℕ → ℕ
source ip = number_at 4 source_at ip

abbrev pub destination : List ℕ → ℕ
destination ip = number_at 4 destination_at ip

-- what stands after the total length is padding
abbrev pub ip_payload : List ℕ → List ℕ
ip_payload ip = slice_range ip (header_len ip) (total_len ip)

abbrev pub is_bad_ipv4 : List ℕ → Bool
is_bad_ipv4 ip =
    nat_lt (length ip) ipv4_len || not (version ip == 4) || nat_lt (header_len ip) ipv4_len
    || nat_lt (total_len ip) (header_len ip)

abbrev pub is_fragment : List ℕ → Bool
is_fragment ip = not (fragment_bits ip == 0)

abbrev pub is_not_tcp : List ℕ → Bool
is_not_tcp ip = not (protocol ip == tcp_protocol)

abbrev pub is_cut : List ℕ → Bool
is_cut ip = nat_lt (length ip) (total_len ip)

-- TCP (RFC 9293 section 3.1). `tcp` is what a datagram carries.

abbrev pub data_offset : List ℕ → ℕ
data_offset tcp = 4 * (slice_index tcp data_offset_at / 16)

abbrev pub is_bad_tcp : List ℕ → Bool
is_bad_tcp tcp =
    nat_lt (length tcp) tcp_len || nat_lt (data_offset tcp) tcp_len || nat_lt (length tcp) (data_offset tcp)

abbrev pub sender : List ℕ → Peer
sender ip = record { addr = source ip; port = number_at 2 0 (ip_payload ip) }

abbrev pub receiver : List ℕ → Peer
receiver ip = record { addr = destination ip; port = number_at 2 to_port_at (ip_payload ip) }

abbrev pub is_same_ends : List ℕ → Bool
is_same_ends ip = (sender ip).addr == (receiver ip).addr && (sender ip).port == (receiver ip).port

abbrev pub payload_of : List ℕ → List ℕ
payload_of tcp = slice_range tcp (data_offset tcp) (length tcp)

abbrev pub payload_offset : List ℕ → ℕ
payload_offset frame = link_len (is_tagged frame) + header_len (datagram frame) + data_offset (ip_payload (datagram frame))

pub data FrameClass : Type 0 where
  short : FrameClass
  not_ipv4 : FrameClass
  bad_ipv4 : FrameClass
  fragment : FrameClass
  not_tcp : FrameClass
  cut : FrameClass
  bad_tcp : FrameClass
  same_ends : FrameClass
  segment : FrameClass

-- the first class whose test holds, or a segment if none does
abbrev pub frame_class_in : Bool → List ℕ → FrameClass
frame_class_in tagged frame =
    if is_short tagged frame then short
    else if is_not_ipv4 tagged frame then not_ipv4
    else if is_bad_ipv4 (datagram_in tagged frame) then bad_ipv4
    else if is_fragment (datagram_in tagged frame) then fragment
    else if is_not_tcp (datagram_in tagged frame) then not_tcp
    else if is_cut (datagram_in tagged frame) then cut
    else if is_bad_tcp (ip_payload (datagram_in tagged frame)) then bad_tcp
    else if is_same_ends (datagram_in tagged frame) then same_ends
    else segment

unfoldable pub frame_class : List ℕ → FrameClass
frame_class frame = frame_class_in (is_tagged frame) frame

-- The fields of a TCP segment and of its headers, without checksums, because captures of outgoing packets often have unfilled ones.
pub record SegmentFields : Type 0 where
  pub mac_from : List ℕ
  pub mac_to : List ℕ
  pub vlan : Option ℕ
  pub from : Peer
  pub to : Peer
  pub seq : ℕ
  pub ack : ℕ
  pub flags : ℕ
  pub payload : List ℕ

abbrev pub segment_fields_in : Bool → List ℕ → SegmentFields
segment_fields_in tagged frame = record {
  mac_from = slice_range frame mac_len (mac_len + mac_len);
  mac_to = slice_range frame 0 mac_len;
  vlan = vlan_in tagged frame;
  from = sender (datagram_in tagged frame);
  to = receiver (datagram_in tagged frame);
  seq = number_at 4 seq_at (ip_payload (datagram_in tagged frame));
  ack = number_at 4 ack_at (ip_payload (datagram_in tagged frame));
  flags = slice_index (ip_payload (datagram_in tagged frame)) flags_at;
  payload = payload_of (ip_payload (datagram_in tagged frame));
}

unfoldable pub segment_fields : List ℕ → SegmentFields
segment_fields frame = segment_fields_in (is_tagged frame) frame

-- a captured frame as everything above sees it; its fields mean something only if it is a segment
pub record SeenFrame : Type 0 where
  pub class : FrameClass
  pub fields : SegmentFields

abbrev pub seen_frame : List ℕ → SeenFrame
seen_frame frame = record { class = frame_class frame; fields = segment_fields frame }
