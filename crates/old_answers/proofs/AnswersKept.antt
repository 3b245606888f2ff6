-- Captures of the first magic number without a tagged frame are answered as they were before captures in nanoseconds and frames with a tag.
use Rattle.std.proofs.Common.{◌≡◌, ℕ, ◌++◌, nat_lt, List, [], ◌∷◌, length, map, None, Result, Ok, Err, IfOk, refl, sym, ap, ap₂, ◌∙◌, if◌then◌else◌}
use Rattle.std.specs.List.{AllByRecursion, enumerate_from, flat_map}
use Rattle.pcap_records.specs.declared.fault.CaptureFault.{CaptureFault}
use Rattle.pcap_records.specs.Instants.{microseconds}
use Rattle.pcap_records.specs.Reading.{Reading, reading}
use Rattle.pcap_records.specs.Writing.{file_header}
use Rattle.pcap_records.specs.Grammar.{ReadingsSplit}
use Rattle.segment_writer.specs.declared.framed.Framed.{Framed}
use Rattle.segment_writer.specs.WrittenSegments.{sorted_by_key}
use Rattle.time_merge.specs.MergedCapture.{capture_of}
use Rattle.conn_table.specs.IndexedSegments.{IndexedSegment, indexed_segments}
use Rattle.conn_table.specs.Connections.{Connection}
use Rattle.conn_table.specs.SeenCapture.{SeenCapture}
use Rattle.reassembly.specs.Positions.{vlan_of}
use Rattle.report.specs.ReportText.{report_text}
use Rattle.run_files.specs.declared.error.RunFault.{RunFault}
use Rattle.run_files.specs.declared.error.RunFault.TheVariants.{TooManyScenarios}
use Rattle.run_files.specs.declared.outputs.Output.{Output}
use Rattle.scenarios.specs.declared.proxies.Proxy.{Proxy}
use Rattle.conn_workers.specs.Recordings.{Contribution, contribution_of}
use Rattle.toxicap.specs.Rehearsal.{contributions, scenario_output, outputs_of, scenario_limit, seen_file, answer_to, answer}
use Rattle.old_answers.specs.WritingBefore.{file_header_before}
use Rattle.old_answers.specs.ConnectionsBefore.{seen_capture_before, connections_before, unopened_count_before}
use Rattle.old_answers.specs.AnswersBefore.{contribution_of_before, contributions_before, capture_of_before, output_before, outputs_of_before, seen_file_before, answer_to_before, answer_before}
use Rattle.old_answers.specs.OldAnswers.{AreUntagged, OldAnswersAreKept}
use Rattle.old_answers.proofs.ReadingKept.{reading_kept, counts_as_before}
use Rattle.old_answers.proofs.FramesKept.{HasNoVlan, seen_kept, segments_have_none}
use Rattle.old_answers.proofs.ConnectionsKept.{connections_kept, unopened_kept, connections_have_none}
use Rattle.old_answers.proofs.ContributionsKept.{contribution_is_kept}

-- ---- outputs are written as before

microsecond_header_kept : file_header microseconds ≡ file_header_before microseconds
unfolding file_header file_header_before
microsecond_header_kept = refl

header_kept : (ticks : ℕ) → ticks ≡ microseconds → file_header ticks ≡ file_header_before ticks
header_kept ticks counted = ap file_header counted ∙ microsecond_header_kept ∙ ap file_header_before (sym counted)

capture_kept : (ticks : ℕ) → ticks ≡ microseconds → (segments : List Framed) → capture_of ticks segments ≡ capture_of_before ticks segments
unfolding capture_of capture_of_before
capture_kept ticks counted segments = ap (λ (header : List ℕ). header ++ flat_map (λ x. x.bytes) (sorted_by_key segments)) (header_kept ticks counted)

-- a capture that counts microseconds and has no segment with a VLAN
record IsOld (c : SeenCapture) : Type 0 where
  counted : c.ticks ≡ microseconds
  none : AllByRecursion HasNoVlan (indexed_segments 0 c.packets)

contributions_kept : (c : SeenCapture) → IsOld c → (seed : ℕ) (s : ℕ × List Proxy) → contributions c seed s ≡ contributions_before c seed s
contributions_kept c old seed s =
    ap (λ (cs : List Connection). map (contribution_of c.ticks seed s) cs) (connections_kept segs old.none)
    ∙ each (connections_before segs) (connections_have_none segs old.none)
  where
    segs : List IndexedSegment
    segs = indexed_segments 0 c.packets

    each : (cs : List Connection) → AllByRecursion (λ (x : Connection). vlan_of x ≡ None) cs
        → map (contribution_of c.ticks seed s) cs ≡ map (contribution_of_before c.ticks seed s) cs
    each [] none = refl
    each (x ∷ xs) none = ap₂ (λ y ys. y ∷ ys) (contribution_is_kept c.ticks seed s x none.0) (each xs none.1)

output_kept : (c : SeenCapture) → IsOld c → (seed : ℕ) (s : ℕ × List Proxy) → scenario_output c seed s ≡ output_before c seed s
unfolding scenario_output output_before
output_kept c old seed s =
    ap₂ (λ (parts : List Contribution) (unopened : ℕ). made (capture_of c.ticks (flat_map (λ p. p.segments) parts)) (report_text s.0 c unopened (map (λ p. p.line) parts)))
    (contributions_kept c old seed s) (unopened_kept (indexed_segments 0 c.packets) old.none)
    ∙ ap (λ (bytes : List ℕ). made bytes (report_text s.0 c (unopened_count_before (indexed_segments 0 c.packets)) (map (λ p. p.line) (contributions_before c seed s))))
    (capture_kept c.ticks old.counted (flat_map (λ p. p.segments) (contributions_before c seed s)))
  where
    made : List ℕ → List ℕ → Output
    made capture report = record { capture = capture; report = report }

each_kept : (c : SeenCapture) → IsOld c → (seed : ℕ) (ss : List (ℕ × List Proxy)) → map (scenario_output c seed) ss ≡ map (output_before c seed) ss
each_kept c old seed [] = refl
each_kept c old seed (s ∷ ss) = ap₂ (λ o os. o ∷ os) (output_kept c old seed s) (each_kept c old seed ss)

answer_kept : (file : Result Reading CaptureFault) → ((r : Reading) → file ≡ Ok r → r.contents.ticks ≡ microseconds) → IfOk file (λ r. AreUntagged r.contents.packets)
    → (scenarios : List (List Proxy)) (seed : ℕ) → answer_to (seen_file file) scenarios seed ≡ answer_to_before (seen_file_before file) scenarios seed
unfolding outputs_of outputs_of_before
answer_kept (Ok r) counts untagged scenarios seed =
    ap (λ (c : SeenCapture). answer_to (Ok c) scenarios seed) (seen_kept r.contents untagged)
    ∙ ap Ok (each_kept (seen_capture_before r.contents) (record { counted = counts r refl; none = segments_have_none r.contents.packets }) seed (enumerate_from 0 scenarios))
answer_kept (Err f) counts untagged scenarios seed = refl

pub old_answers_are_kept : ReadingsSplit → OldAnswersAreKept
unfolding answer answer_before
old_answers_are_kept readings_split bytes has untagged scenarios seed =
    ap (λ (a : Result (List Output) RunFault). if nat_lt scenario_limit (length scenarios) then Err TooManyScenarios else a)
    (answer_kept (reading bytes) (counts_as_before readings_split bytes has) untagged scenarios seed
    ∙ ap (λ (file : Result Reading CaptureFault). answer_to_before (seen_file_before file) scenarios seed) (reading_kept bytes has))
