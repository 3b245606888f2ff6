-- Captures without a tagged frame are seen as they were before frames with a tag, and none of their segments has a VLAN.
use Rattle.std.proofs.Common.{◌≡◌, ℕ, ◌+◌, Bool, true, false, List, [], ◌∷◌, map, Some, None, refl, ap, ap₂, if◌then◌else◌}
use Rattle.std.specs.List.{AllByRecursion, zip, enumerate_from, filter_map, cons_option}
use Rattle.pcap_records.specs.Instants.{instants}
use Rattle.pcap_records.specs.Reading.{Packet, Contents}
use Rattle.frame_headers.specs.Frame.{is_tagged, frame_class, frame_class_in, segment_fields, segment_fields_in, FrameClass, SegmentFields, SeenFrame, seen_frame}
use Rattle.conn_table.specs.SeenCapture.{SeenPacket, SeenCapture, seen_packet, seen_packets, seen_capture}
use Rattle.conn_table.specs.IndexedSegments.{IndexedSegment, is_segment, indexed_segment, indexed_segments}
use Rattle.old_answers.specs.FramesBefore.{frame_class_before, segment_fields_before, seen_frame_before}
use Rattle.old_answers.specs.ConnectionsBefore.{seen_packet_before, seen_packets_before, seen_capture_before}
use Rattle.old_answers.specs.OldAnswers.{AreUntagged}

-- ---- what is seen

class_kept : (frame : List ℕ) → is_tagged frame ≡ false → frame_class frame ≡ frame_class_before frame
unfolding frame_class frame_class_before
class_kept frame untagged = ap (λ (tagged : Bool). frame_class_in tagged frame) untagged

fields_kept : (frame : List ℕ) → is_tagged frame ≡ false → segment_fields frame ≡ segment_fields_before frame
unfolding segment_fields segment_fields_before
fields_kept frame untagged = ap (λ (tagged : Bool). segment_fields_in tagged frame) untagged

frame_kept : (frame : List ℕ) → is_tagged frame ≡ false → seen_frame frame ≡ seen_frame_before frame
frame_kept frame untagged =
    ap₂ (λ (class : FrameClass) (fields : SegmentFields). let seen : SeenFrame = record { class = class; fields = fields } in seen)
    (class_kept frame untagged) (fields_kept frame untagged)

packets_kept : (ts : List ℕ) (ps : List Packet) → AreUntagged ps → map seen_packet (zip ts ps) ≡ map seen_packet_before (zip ts ps)
packets_kept [] ps untagged = refl
packets_kept (t ∷ ts) [] untagged = refl
packets_kept (t ∷ ts) (p ∷ ps) untagged =
    ap₂ (λ (frame : SeenFrame) (more : List SeenPacket). let packet : SeenPacket = record { at = t; frame = frame } in packet ∷ more)
    (frame_kept p.bytes untagged.0) (packets_kept ts ps untagged.1)

pub seen_kept : (c : Contents) → AreUntagged c.packets → seen_capture c ≡ seen_capture_before c
unfolding seen_packets seen_packets_before
seen_kept c untagged =
    ap (λ (packets : List SeenPacket). let seen : SeenCapture = record { ticks = c.ticks; packets = packets; rest = c.rest } in seen)
    (packets_kept (instants 0 (map (λ p. p.stamp) c.packets)) c.packets untagged)

-- ---- no VLAN

abbrev pub HasNoVlan : IndexedSegment → Type 0
HasNoVlan s = s.timed.fields.vlan ≡ None

packets_have_none : (n : ℕ) (ts : List ℕ) (ps : List Packet) → AllByRecursion HasNoVlan (filter_map indexed_segment (enumerate_from n (map seen_packet_before (zip ts ps))))
unfolding segment_fields_before
packets_have_none n [] ps = tt
packets_have_none n (t ∷ ts) [] = tt
packets_have_none n (t ∷ ts) (p ∷ ps) = by (is_segment (frame_class_before p.bytes)) (packets_have_none (n + 1) ts ps)
  where
    rest : List IndexedSegment
    rest = filter_map indexed_segment (enumerate_from (n + 1) (map seen_packet_before (zip ts ps)))

    by : (b : Bool) → AllByRecursion HasNoVlan rest
        → AllByRecursion HasNoVlan (cons_option (if b then Some (record { index = n; timed = record { at = t; fields = segment_fields_before p.bytes } }) else None) rest)
    by true all = (refl, all)
    by false all = all

pub segments_have_none : (packets : List Packet) → AllByRecursion HasNoVlan (indexed_segments 0 (seen_packets_before 0 packets))
unfolding indexed_segments seen_packets_before
segments_have_none packets = packets_have_none 0 (instants 0 (map (λ p. p.stamp) packets)) packets
