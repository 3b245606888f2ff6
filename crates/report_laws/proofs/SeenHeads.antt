-- Captures with the same heads are seen alike, except for the bytes of payloads.
use Rattle.std.proofs.Common.{◌≡◌, ℕ, List, [], ◌∷◌, length, map, drop, get_or, refl, sym, ap, ap₂, ◌∙◌, arith}
use Rattle.std.specs.List.{zip}
use Rattle.std.proofs.lemmas.Simd.{map-map}
use Rattle.pcap_records.specs.Instants.{instants}
use Rattle.pcap_records.specs.Reading.{Packet, Contents}
use Rattle.pcap_records.specs.Heads.{head_of, heads_of}
use Rattle.frame_headers.specs.Frame.{seen_frame}
use Rattle.conn_table.specs.SeenCapture.{SeenPacket, seen_packet, seen_packets, seen_capture}
use Rattle.conn_workers.specs.RowShares.{run_summary}
use Rattle.report_laws.specs.SeenHeads.{zeroed_frame, zeroed_packet, zeroed_seen, ReportSeesHeads, SummarySeesHeads}
use Rattle.report_laws.proofs.FrameHeads.{frame_sees_head}
use Rattle.report_laws.proofs.ZeroedReports.{report_sees_lengths, summary_zeroed}

frames_same : (p q : Packet) → head_of p ≡ head_of q → zeroed_frame (seen_frame p.bytes) ≡ zeroed_frame (seen_frame q.bytes)
frames_same p q same = frame_sees_head p.bytes q.bytes (record { first = ap (λ h. h.bytes) same; long = ap (λ h. h.len) same })

zipped_same : (ats : List ℕ) (ps qs : List Packet) → map head_of ps ≡ map head_of qs
    → map zeroed_packet (map seen_packet (zip ats ps)) ≡ map zeroed_packet (map seen_packet (zip ats qs))
zipped_same [] ps qs same = refl
zipped_same (at ∷ ats) [] [] same = refl
zipped_same (at ∷ ats) [] (q ∷ qs) same = absurd (omega (arith, ap length same))
zipped_same (at ∷ ats) (p ∷ ps) [] same = absurd (omega (arith, ap length same))
zipped_same (at ∷ ats) (p ∷ ps) (q ∷ qs) same =
    let frames = frames_same p q (ap (λ hs. get_or hs 0 (head_of p)) same) in
    let packet : zeroed_packet (seen_packet (at, p)) ≡ zeroed_packet (seen_packet (at, q)) = λ i. record { at = at; frame = frames i } in
    ap₂ (λ (x : SeenPacket) (xs : List SeenPacket). x ∷ xs) packet (zipped_same ats ps qs (ap (drop 1) same))

packets_same : (ps qs : List Packet) → map head_of ps ≡ map head_of qs → map zeroed_packet (seen_packets 0 ps) ≡ map zeroed_packet (seen_packets 0 qs)
unfolding seen_packets
packets_same ps qs same =
    let stamps : map (λ p. p.stamp) ps ≡ map (λ p. p.stamp) qs =
    sym (map-map (λ h. h.stamp) head_of ps) ∙ ap (map (λ h. h.stamp)) same ∙ map-map (λ h. h.stamp) head_of qs in
    zipped_same (instants 0 (map (λ p. p.stamp) ps)) ps qs same
    ∙ ap (λ stamps. map zeroed_packet (map seen_packet (zip (instants 0 stamps) qs))) stamps

captures_same : (one other : Contents) → heads_of one ≡ heads_of other → zeroed_seen (seen_capture one) ≡ zeroed_seen (seen_capture other)
captures_same one other same =
    let packets = packets_same one.packets other.packets (ap (λ h. h.packets) same) in
    λ i. record { ticks = (same i).ticks; packets = packets i; rest = (same i).rest }

pub report_sees_heads : ReportSeesHeads
report_sees_heads one other same seed s = report_sees_lengths (seen_capture one) (seen_capture other) (captures_same one other same) seed s

pub summary_sees_heads : SummarySeesHeads
summary_sees_heads one other same scenarios =
    sym (summary_zeroed (seen_capture one) scenarios) ∙ ap (λ c. run_summary c scenarios) (captures_same one other same) ∙ summary_zeroed (seen_capture other) scenarios
