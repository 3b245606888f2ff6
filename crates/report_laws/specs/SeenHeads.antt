-- What reports see of a capture: payloads in which each byte is 0, and heads of packets.
use Rattle.std.specs.Prelude.{◌≡◌, ℕ, List, map, length, take}
use Rattle.frame_headers.specs.Frame.{SegmentFields, SeenFrame, seen_frame}
use Rattle.conn_table.specs.SeenCapture.{SeenPacket, SeenCapture, seen_capture}
use Rattle.conn_table.specs.IndexedSegments.{indexed_segments}
use Rattle.conn_table.specs.Connections.{connections, unopened_count}
use Rattle.report.specs.ReportText.{report_text}
use Rattle.scenarios.specs.declared.proxies.Proxy.{Proxy}
use Rattle.conn_workers.specs.Recordings.{contribution_of}
use Rattle.pcap_records.specs.Reading.{Contents}
use Rattle.pcap_records.specs.Heads.{head_len, heads_of}
use Rattle.conn_workers.specs.RowShares.{run_summary}

-- ---- captures without what their segments carry, and what a report sees of captures

-- as many bytes, all of them 0
abbrev pub zeroed : List ℕ → List ℕ
zeroed bytes = map (λ byte. 0) bytes

abbrev pub zeroed_fields : SegmentFields → SegmentFields
zeroed_fields f = record f { payload = zeroed f.payload }

abbrev pub zeroed_frame : SeenFrame → SeenFrame
zeroed_frame f = record f { fields = zeroed_fields f.fields }

abbrev pub zeroed_packet : SeenPacket → SeenPacket
zeroed_packet p = record p { frame = zeroed_frame p.frame }

-- a capture whose payloads are zeroed
abbrev pub zeroed_seen : SeenCapture → SeenCapture
zeroed_seen c = record c { packets = map zeroed_packet c.packets }

-- two captures differ only in bytes of payloads, if at all
abbrev pub DifferInPayloads : SeenCapture → SeenCapture → Type 0
DifferInPayloads one other = zeroed_seen one ≡ zeroed_seen other

-- the report of a scenario with its number, by its definition; a scenario is seen as its proxies in order
abbrev pub report_of : SeenCapture → ℕ → ℕ × List Proxy → List ℕ
report_of c seed scenario =
    report_text scenario.0 c (unopened_count (indexed_segments 0 c.packets))
    (map (λ p. p.line) (map (contribution_of c.ticks seed scenario) (connections (indexed_segments 0 c.packets))))

-- two such captures have the same report of a scenario
abbrev pub ReportSeesLengths : Type 0
ReportSeesLengths =
    (one other : SeenCapture) → DifferInPayloads one other → (seed : ℕ) (scenario : ℕ × List Proxy) → report_of one seed scenario ≡ report_of other seed scenario

-- ---- what is seen of packets of which only the heads are the same

-- two packets have equal length and the same kept first bytes
pub record HaveSameFirst (kept : List ℕ → ℕ) (one other : List ℕ) : Type 0 where
  pub first : take (kept one) one ≡ take (kept other) other
  pub long : length one ≡ length other

-- such packets are seen as the same frame, except for its payload's bytes
abbrev pub FrameSeesHead : Type 0
FrameSeesHead = (one other : List ℕ) → HaveSameFirst head_len one other → zeroed_frame (seen_frame one) ≡ zeroed_frame (seen_frame other)

-- captures with the same heads have the same report of a scenario
abbrev pub ReportSeesHeads : Type 0
ReportSeesHeads =
    (one other : Contents) → heads_of one ≡ heads_of other → (seed : ℕ) (scenario : ℕ × List Proxy)
    → report_of (seen_capture one) seed scenario ≡ report_of (seen_capture other) seed scenario

-- and the same summary of a run with these scenarios
abbrev pub SummarySeesHeads : Type 0
SummarySeesHeads =
    (one other : Contents) → heads_of one ≡ heads_of other → (scenarios : List (List Proxy))
    → run_summary (seen_capture one) scenarios ≡ run_summary (seen_capture other) scenarios
