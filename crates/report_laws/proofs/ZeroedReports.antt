-- Reports of a capture whose payloads are zeroed: those of the capture.
use Rattle.std.proofs.Common.{◌≡◌, ℕ, ◌+◌, ◌-◌, cond, ◌==◌, List, ◌++◌, length, map, codes, decimal, Bool, Option, refl, sym, ap, ap₂, ◌∙◌}
use Rattle.std.specs.List.{flat_map}
use Rattle.std.proofs.Math.Path.{fun_ext}
use Rattle.std.proofs.lemmas.List.{length-map}
use Rattle.std.proofs.lemmas.List.Folds.{fold-map}
use Rattle.std.proofs.lemmas.Simd.{map-map}
use Rattle.pcap_records.specs.Instants.{greatest}
use Rattle.frame_headers.specs.Frame.{FrameClass, short, not_ipv4, bad_ipv4, fragment, not_tcp, cut, bad_tcp, same_ends, segment}
use Rattle.frame_headers.specs.declared.peers.Peer.{Peer}
use Rattle.conn_table.specs.SeenCapture.{SeenPacket, SeenCapture}
use Rattle.conn_table.specs.ClassCounts.{count_of, class_number, counts_of}
use Rattle.conn_table.specs.IndexedSegments.{IndexedSegment, indexed_segments}
use Rattle.conn_table.specs.Connections.{Connection, connections, unopened_count}
use Rattle.reassembly.specs.Positions.{client_of, server_of, vlan_of}
use Rattle.reassembly.specs.RecordedLines.{LineByte, Line, RecordedSide, RecordedConnection, recorded_connection}
use Rattle.toxic_defs.specs.DeliveredLines.{MetProxy, DeliveredConnection, delivered_connection}
use Rattle.report.specs.ReportText.{peers_text, counts_text, counts_text_of, connections_text, longest_delay, end_word, side_text, connection_text, report_text}
use Rattle.scenarios.specs.declared.proxies.Proxy.{Proxy}
use Rattle.conn_workers.specs.Recordings.{met_proxy, contribution, contribution_of}
use Rattle.conn_workers.specs.RowShares.{seen_of_connection, met_count, run_summary}
use Rattle.conn_workers.specs.declared.summaries.SeenConn.{SeenConn}
use Rattle.report_laws.specs.SeenHeads.{zeroed_packet, zeroed_seen, report_of, ReportSeesLengths}
use Rattle.report_laws.proofs.MappedLists.{zip_mapped}
use Rattle.report_laws.proofs.ZeroedLines.{zeroed_connection, indexed_zeroed, connections_zeroed, unopened_same, zeroed_byte, zeroed_line, zeroed_side, zeroed_recorded, connection_recorded}
use Rattle.report_laws.proofs.ZeroedToxics.{zeroed_delivered, delivered_zeroed}

-- ---- counts

count_zeroed : (k : FrameClass) (packets : List SeenPacket) → count_of k (map zeroed_packet packets) ≡ count_of k packets
count_zeroed k packets = fold-map (λ (n : ℕ) (p : SeenPacket). n + cond (class_number p.frame.class == class_number k) 1 0) zeroed_packet 0 packets

counts_zeroed : (packets : List SeenPacket) → counts_of (map zeroed_packet packets) ≡ counts_of packets
unfolding counts_of
counts_zeroed packets = λ i. record {
  segment = count_zeroed segment packets i;
  short = count_zeroed short packets i;
  not_ipv4 = count_zeroed not_ipv4 packets i;
  bad_ipv4 = count_zeroed bad_ipv4 packets i;
  fragment = count_zeroed fragment packets i;
  not_tcp = count_zeroed not_tcp packets i;
  cut = count_zeroed cut packets i;
  bad_tcp = count_zeroed bad_tcp packets i;
  same_ends = count_zeroed same_ends packets i;
}

-- ---- a connection's line

delay_zeroed : (recorded delivered : List LineByte) → longest_delay (map zeroed_byte recorded) (map zeroed_byte delivered) ≡ longest_delay recorded delivered
delay_zeroed recorded delivered = ap greatest (zip_mapped zeroed_byte zeroed_byte (λ (r, d). d.at - r.at) (λ r d. refl) recorded delivered)

side_zeroed : (opened : ℕ) (refused : Bool) (s : RecordedSide) (f : Line) → side_text opened refused (zeroed_side s) (zeroed_line f) ≡ side_text opened refused s f
side_zeroed opened refused s f = λ i.
    decimal (length-map f.bytes zeroed_byte i) ++ (codes "/" ++ (decimal (length-map s.line.bytes zeroed_byte i) ++ (codes "/" ++ (decimal s.lost
    ++ (codes " " ++ (end_word refused opened f.end ++ (codes " max " ++ decimal (delay_zeroed s.line.bytes f.bytes i))))))))

text_zeroed : (number : ℕ) (vlan : Option ℕ) (client server : Peer) (r : RecordedConnection) (d : DeliveredConnection)
    → connection_text number vlan client server (zeroed_recorded r) (zeroed_delivered d) ≡ connection_text number vlan client server r d
unfolding connection_text
text_zeroed number vlan client server r d =
    ap₂ (λ up down. peers_text number vlan client server d.proxy ++ (codes " up " ++ (up ++ (codes " down " ++ (down ++ codes "\n")))))
    (side_zeroed r.opened d.refused r.up d.up) (side_zeroed r.opened d.refused r.down d.down)

line_zeroed : (ticks seed : ℕ) (s : ℕ × List Proxy) (c : Connection) → (contribution_of ticks seed s (zeroed_connection c)).line ≡ (contribution_of ticks seed s c).line
unfolding contribution
line_zeroed ticks seed (number, proxies) c =
    let met : Option MetProxy = met_proxy (server_of c) proxies in
    let text : RecordedConnection → DeliveredConnection → List ℕ = connection_text c.number (vlan_of c) (client_of c) (server_of c) in
    let r : RecordedConnection = recorded_connection c in
    ap (λ (x : RecordedConnection). text x (delivered_connection ticks seed number c.number met x)) (connection_recorded c)
    ∙ ap (text (zeroed_recorded r)) (delivered_zeroed ticks seed number c.number met r)
    ∙ text_zeroed c.number (vlan_of c) (client_of c) (server_of c) r (delivered_connection ticks seed number c.number met r)

-- ---- reports

module _ (c : SeenCapture) (seed : ℕ) where
  segs : List IndexedSegment
  segs = indexed_segments 0 c.packets

  lines_zeroed : (s : ℕ × List Proxy) → map (λ p. p.line) (map (contribution_of c.ticks seed s) (connections (indexed_segments 0 (map zeroed_packet c.packets))))
      ≡ map (λ p. p.line) (map (contribution_of c.ticks seed s) (connections (indexed_segments 0 c.packets)))
  unfolding segs
  lines_zeroed s =
      let contributed = contribution_of c.ticks seed s in
      ap (λ xs. map (λ p. p.line) (map contributed (connections xs))) (indexed_zeroed 0 c.packets)
      ∙ ap (λ cs. map (λ p. p.line) (map contributed cs)) (connections_zeroed segs)
      ∙ map-map (λ p. p.line) contributed (map zeroed_connection (connections segs))
      ∙ map-map (λ x. (contributed x).line) zeroed_connection (connections segs)
      ∙ ap (λ (line : Connection → List ℕ). map line (connections segs)) (fun_ext (line_zeroed c.ticks seed s))
      ∙ sym (map-map (λ p. p.line) contributed (connections segs))

  counts_text_zeroed : (s : ℕ) → counts_text s (zeroed_seen c) ≡ counts_text s c
  unfolding counts_text
  counts_text_zeroed s = ap₂ (λ many counts. counts_text_of s many c.rest counts) (length-map c.packets zeroed_packet) (counts_zeroed c.packets)

  unopened_zeroed : unopened_count (indexed_segments 0 (map zeroed_packet c.packets)) ≡ unopened_count segs
  unfolding segs
  unopened_zeroed = ap unopened_count (indexed_zeroed 0 c.packets) ∙ unopened_same segs

  report_zeroed : (s : ℕ × List Proxy) → report_of (zeroed_seen c) seed s ≡ report_of c seed s
  unfolding report_text segs
  report_zeroed s = λ i.
      counts_text_zeroed s.0 i ++ (connections_text (length (lines_zeroed s i)) (unopened_zeroed i) ++ flat_map (λ line. line) (lines_zeroed s i))

pub report_sees_lengths : ReportSeesLengths
report_sees_lengths one other alike seed s = sym (report_zeroed one seed s) ∙ ap (λ c. report_of c seed s) alike ∙ report_zeroed other seed s

-- ---- summaries

conn_zeroed : (c : Connection) → seen_of_connection (zeroed_connection c) ≡ seen_of_connection c
conn_zeroed c = ap (λ (r : RecordedConnection). let seen : SeenConn = record { server = server_of c; up_lost = r.up.lost; down_lost = r.down.lost } in seen) (connection_recorded c)

module _ (c : SeenCapture) where
  conns_zeroed : map seen_of_connection (connections (indexed_segments 0 (map zeroed_packet c.packets))) ≡ map seen_of_connection (connections (indexed_segments 0 c.packets))
  conns_zeroed =
      ap (λ xs. map seen_of_connection (connections xs)) (indexed_zeroed 0 c.packets)
      ∙ ap (map seen_of_connection) (connections_zeroed (indexed_segments 0 c.packets))
      ∙ map-map seen_of_connection zeroed_connection (connections (indexed_segments 0 c.packets))
      ∙ ap (λ (seen : Connection → SeenConn). map seen (connections (indexed_segments 0 c.packets))) (fun_ext conn_zeroed)

  pub summary_zeroed : (scenarios : List (List Proxy)) → run_summary (zeroed_seen c) scenarios ≡ run_summary c scenarios
  unfolding run_summary segs
  summary_zeroed scenarios = λ i. record {
    records = length-map c.packets zeroed_packet i;
    rest = c.rest;
    counts = counts_zeroed c.packets i;
    unopened = unopened_zeroed c 0 i;
    connections = conns_zeroed i;
    met = map (λ proxies. met_count proxies (conns_zeroed i)) scenarios;
  }
