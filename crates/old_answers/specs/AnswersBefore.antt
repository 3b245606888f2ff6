-- The outcome of a rehearsal before captures in nanoseconds and frames with a tag: the definitions of then, word for word.
use Rattle.std.specs.Prelude.{ℕ, List, ◌++◌, length, map, nat_lt, if◌then◌else◌, Option, Result, Ok, Err}
use Rattle.std.specs.List.{enumerate_from, flat_map}
use Rattle.pcap_records.specs.declared.fault.CaptureFault.{CaptureFault}
use Rattle.pcap_records.specs.Reading.{Reading}
use Rattle.run_files.specs.declared.error.RunFault.{RunFault}
use Rattle.run_files.specs.declared.error.RunFault.TheVariants.{TooManyScenarios}
use Rattle.run_files.specs.declared.outputs.Output.{Output}
use Rattle.run_files.specs.RunFault.{run_fault}
use Rattle.conn_table.specs.SeenCapture.{SeenCapture}
use Rattle.conn_table.specs.IndexedSegments.{indexed_segments}
use Rattle.conn_table.specs.Connections.{Connection}
use Rattle.reassembly.specs.Positions.{client_of, server_of}
use Rattle.reassembly.specs.RecordedLines.{RecordedConnection, recorded_connection}
use Rattle.toxic_defs.specs.DeliveredLines.{MetProxy, DeliveredConnection, delivered_connection}
use Rattle.segment_writer.specs.declared.framed.Framed.{Framed}
use Rattle.segment_writer.specs.WrittenSegments.{sorted_by_key}
use Rattle.scenarios.specs.declared.proxies.Proxy.{Proxy}
use Rattle.conn_workers.specs.Recordings.{met_proxy, Contribution}
use Rattle.report.specs.ReportText.{report_text}
use Rattle.old_answers.specs.ReadingBefore.{reading_before}
use Rattle.old_answers.specs.WritingBefore.{file_header_before}
use Rattle.old_answers.specs.ConnectionsBefore.{seen_capture_before, connections_before, unopened_count_before}
use Rattle.old_answers.specs.SegmentsBefore.{written_segments_before, written_connection_before}
use Rattle.old_answers.specs.ReportsBefore.{connection_text_before}
use Rattle.toxicap.specs.Rehearsal.{scenario_limit}

-- ---- what a connection contributes

abbrev pub contribution_by_before : ℕ → Connection → RecordedConnection → DeliveredConnection → Contribution
contribution_by_before ticks c r d = record {
  segments = written_segments_before ticks (written_connection_before c.number (client_of c) (server_of c) r d);
  line = connection_text_before c.number (client_of c) (server_of c) r d;
}

unfoldable pub contribution_before : ℕ → Connection → ℕ → ℕ → Option MetProxy → Contribution
contribution_before ticks c scenario seed met =
    contribution_by_before ticks c (recorded_connection c)
    (delivered_connection ticks seed scenario c.number met (recorded_connection c))

abbrev pub contribution_of_before : ℕ → ℕ → ℕ × List Proxy → Connection → Contribution
contribution_of_before ticks seed (number, proxies) c = contribution_before ticks c number seed (met_proxy (server_of c) proxies)

abbrev pub contributions_before : SeenCapture → ℕ → ℕ × List Proxy → List Contribution
contributions_before c seed scenario = map (contribution_of_before c.ticks seed scenario) (connections_before (indexed_segments 0 c.packets))

-- ---- an output

abbrev pub capture_in_turn_before : ℕ → List Framed → List ℕ
capture_in_turn_before ticks segments = file_header_before ticks ++ flat_map (λ x. x.bytes) segments

unfoldable pub capture_of_before : ℕ → List Framed → List ℕ
capture_of_before ticks segments = capture_in_turn_before ticks (sorted_by_key segments)

unfoldable pub output_before : SeenCapture → ℕ → ℕ × List Proxy → Output
output_before c seed scenario = record {
  capture = capture_of_before c.ticks (flat_map (λ p. p.segments) (contributions_before c seed scenario));
  report = report_text scenario.0 c (unopened_count_before (indexed_segments 0 c.packets)) (map (λ p. p.line) (contributions_before c seed scenario));
}

unfoldable pub outputs_of_before : SeenCapture → List (List Proxy) → ℕ → List Output
outputs_of_before c scenarios seed = map (output_before c seed) (enumerate_from 0 scenarios)

-- ---- the answer to a file

abbrev pub seen_file_before : Result Reading CaptureFault → Result SeenCapture CaptureFault
seen_file_before (Ok r) = Ok (seen_capture_before r.contents)
seen_file_before (Err f) = Err f

abbrev pub answer_to_before : Result SeenCapture CaptureFault → List (List Proxy) → ℕ → Result (List Output) RunFault
answer_to_before (Ok c) scenarios seed = Ok (outputs_of_before c scenarios seed)
answer_to_before (Err f) scenarios seed = Err (run_fault f)

-- too many scenarios are refused before the capture is looked at
unfoldable pub answer_before : List ℕ → List (List Proxy) → ℕ → Result (List Output) RunFault
answer_before bytes scenarios seed =
    if nat_lt scenario_limit (length scenarios) then Err TooManyScenarios else answer_to_before (seen_file_before (reading_before bytes)) scenarios seed
