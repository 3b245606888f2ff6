-- What a captured frame was before frames with a tag. Records of today have a VLAN, which is `None` here.
use Rattle.std.specs.Prelude.{ℕ, ◌+◌, ◌-◌, List, length, drop, slice_index, slice_range, Bool, not, nat_lt, ◌==◌, None, if◌then◌else◌}
use Rattle.frame_headers.specs.Layout.{mac_len, type_len, ipv4_type, seq_at, ack_at, flags_at}
use Rattle.frame_headers.specs.Frame.{number_at, is_bad_ipv4, is_fragment, is_not_tcp, is_cut, ip_payload, is_bad_tcp, is_same_ends, sender, receiver, payload_of, FrameClass, short, not_ipv4, bad_ipv4, fragment, not_tcp, cut, bad_tcp, same_ends, segment, SegmentFields, SeenFrame}

abbrev pub link_len_before : ℕ
link_len_before = 14

abbrev pub link_type_before : List ℕ → ℕ
link_type_before frame = number_at 2 (link_len_before - type_len) frame

abbrev pub datagram_before : List ℕ → List ℕ
datagram_before frame = drop link_len_before frame

abbrev pub is_short_before : List ℕ → Bool
is_short_before frame = nat_lt (length frame) link_len_before

abbrev pub is_not_ipv4_before : List ℕ → Bool
is_not_ipv4_before frame = not (link_type_before frame == ipv4_type)

unfoldable pub frame_class_before : List ℕ → FrameClass
frame_class_before frame =
    if is_short_before frame then short
    else if is_not_ipv4_before frame then not_ipv4
    else if is_bad_ipv4 (datagram_before frame) then bad_ipv4
    else if is_fragment (datagram_before frame) then fragment
    else if is_not_tcp (datagram_before frame) then not_tcp
    else if is_cut (datagram_before frame) then cut
    else if is_bad_tcp (ip_payload (datagram_before frame)) then bad_tcp
    else if is_same_ends (datagram_before frame) then same_ends
    else segment

unfoldable pub segment_fields_before : List ℕ → SegmentFields
segment_fields_before frame = record {
  mac_from = slice_range frame mac_len (mac_len + mac_len);
  mac_to = slice_range frame 0 mac_len;
  vlan = None;
  from = sender (datagram_before frame);
  to = receiver (datagram_before frame);
  seq = number_at 4 seq_at (ip_payload (datagram_before frame));
  ack = number_at 4 ack_at (ip_payload (datagram_before frame));
  flags = slice_index (ip_payload (datagram_before frame)) flags_at;
  payload = payload_of (ip_payload (datagram_before frame));
}

abbrev pub seen_frame_before : List ℕ → SeenFrame
seen_frame_before frame = record { class = frame_class_before frame; fields = segment_fields_before frame }
