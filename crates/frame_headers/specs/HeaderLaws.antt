-- What holds of written headers: their checksums are filled, and their fields are read back.
use Rattle.std.specs.Prelude.{◌≡◌, ◌≢◌, ℕ, ◌+◌, ◌<◌, ◌≤◌, ◌^◌, Option, IfSome, List, ◌++◌, length, drop, slice_range}
use Rattle.std.specs.List.{AllByRecursion}
use Rattle.frame_headers.specs.Frame.{SegmentFields, datagram, frame_class, segment_fields, segment, payload_offset}
use Rattle.frame_headers.specs.Layout.{mac_len, vlan_limit, ipv4_len, headers_len, payload_limit}
use Rattle.frame_headers.specs.Headers.{headers}
use Rattle.frame_headers.specs.Sum.{sum16, tcp_sum}
use Rattle.frame_headers.specs.declared.written.Header.{Header}

-- a VLAN's number: above 0, which is none, and of 12 bits
pub record IsVlanNumber (n : ℕ) : Type 0 where
  pub some : 0 < n
  pub limited : n < vlan_limit

abbrev pub IsVlan : Option ℕ → Type 0
IsVlan vlan = IfSome vlan IsVlanNumber

pub record IsHeader (h : Header) : Type 0 where
  pub mac_from : length h.mac_from ≡ mac_len
  pub mac_to : length h.mac_to ≡ mac_len
  pub from_addr : h.from.addr < 2 ^ 32
  pub from_port : h.from.port < 2 ^ 16
  pub to_addr : h.to.addr < 2 ^ 32
  pub to_port : h.to.port < 2 ^ 16
  pub seq : h.seq < 2 ^ 32
  pub ack : h.ack < 2 ^ 32
  pub flags : h.flags < 2 ^ 8

abbrev pub fields_with : Header → List ℕ → SegmentFields
fields_with h bytes = record {
  mac_from = h.mac_from;
  mac_to = h.mac_to;
  vlan = h.vlan;
  from = h.from;
  to = h.to;
  seq = h.seq;
  ack = h.ack;
  flags = h.flags;
  payload = bytes;
}

-- the sums of the IPv4 header and of TCP, their checksums included, are all ones, so the complements are 0
pub record SumsToNothing (h : Header) (frame : List ℕ) : Type 0 where
  pub ipv4 : sum16 (slice_range (datagram frame) 0 ipv4_len) ≡ 0
  pub tcp : tcp_sum h.from.addr h.to.addr (drop ipv4_len (datagram frame)) ≡ 0

-- the frame is read as a segment with this header and payload, if its peers differ
pub record IsReadBack (h : Header) (bytes frame : List ℕ) : Type 0 where
  pub fields : segment_fields frame ≡ fields_with h bytes
  pub class : h.from ≢ h.to → frame_class frame ≡ segment

-- written headers have their length and filled checksums, and are read back if the VLAN's number fits a tag
abbrev pub HeadersAreSound : Type 0
HeadersAreSound =
    (h : Header) (bytes : List ℕ) → IsHeader h → length bytes ≤ payload_limit
    → (length (headers h bytes) ≡ headers_len h.vlan) × SumsToNothing h (headers h bytes ++ bytes)
    × (IsVlan h.vlan → IsReadBack h bytes (headers h bytes ++ bytes))

-- the fields of a captured segment fit their places in written headers, and its peers differ
pub record FieldsFit (f : SegmentFields) : Type 0 where
  pub mac_from : length f.mac_from ≡ mac_len
  pub mac_to : length f.mac_to ≡ mac_len
  pub vlan : IsVlan f.vlan
  pub from_addr : f.from.addr < 2 ^ 32
  pub from_port : f.from.port < 2 ^ 16
  pub to_addr : f.to.addr < 2 ^ 32
  pub to_port : f.to.port < 2 ^ 16
  pub seq : f.seq < 2 ^ 32
  pub differ : f.from ≢ f.to

abbrev pub SegmentsFit : Type 0
SegmentsFit =
    (frame : List ℕ) → AllByRecursion (λ b. b < 256) frame → frame_class frame ≡ segment → FieldsFit (segment_fields frame)

-- a segment's payload lies in its frame, after the three headers
pub record IsPayloadInPlace (frame : List ℕ) : Type 0 where
  pub within : payload_offset frame + length (segment_fields frame).payload ≤ length frame
  pub bytes :
      slice_range frame (payload_offset frame) (payload_offset frame + length (segment_fields frame).payload)
      ≡ (segment_fields frame).payload

abbrev pub PayloadsAreInPlace : Type 0
PayloadsAreInPlace = (frame : List ℕ) → frame_class frame ≡ segment → IsPayloadInPlace frame
