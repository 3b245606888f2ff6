-- What contracts see of the code's classes and segments.
use Rattle.std.specs.Prelude.{◌≡◌, ◌≤◌, ◌<◌, ℕ, ◌+◌, ◌^◌, List, length}
use Rattle.frame_headers.specs.Frame.{FrameClass, short, not_ipv4, bad_ipv4, fragment, not_tcp, cut, bad_tcp, same_ends, segment, SegmentFields, payload_offset}
use Rattle.frame_headers.specs.declared.classes.Class.{Class}
use Rattle.frame_headers.specs.declared.classes.Class.TheVariants as classes
use Rattle.frame_headers.specs.declared.classes.Segment.{Segment}

abbrev pub frame_class_of : Class → FrameClass
frame_class_of classes.Short = short
frame_class_of classes.NotIpv4 = not_ipv4
frame_class_of classes.BadIpv4 = bad_ipv4
frame_class_of classes.Fragment = fragment
frame_class_of classes.NotTcp = not_tcp
frame_class_of classes.Cut = cut
frame_class_of classes.BadTcp = bad_tcp
frame_class_of classes.SameEnds = same_ends
frame_class_of (classes.Segment s) = segment

abbrev pub fields_of_segment : Segment → SegmentFields
fields_of_segment s = record {
  mac_from = s.mac_from;
  mac_to = s.mac_to;
  vlan = s.vlan;
  from = s.from;
  to = s.to;
  seq = s.seq;
  ack = s.ack;
  flags = s.flags;
  payload = s.payload.now;
}

-- a segment's payload lies in the frame at the segment's offset, and its length has 16 bits
pub record IsPayloadIn (frame : List ℕ) (s : Segment) : Type 0 where
  pub offset : s.offset ≡ payload_offset frame
  pub within : s.offset + length s.payload.now ≤ length frame
  pub short : length s.payload.now < 2 ^ 16

abbrev pub HasPayloadIn : List ℕ → Class → Type 0
HasPayloadIn frame (classes.Segment s) = IsPayloadIn frame s
HasPayloadIn frame c = Unit {0}

abbrev pub HasFields : Class → SegmentFields → Type 0
HasFields (classes.Segment s) fields = fields_of_segment s ≡ fields
HasFields c fields = Unit {0}
