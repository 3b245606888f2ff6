-- The answer to a rehearsal: for each scenario a capture and a report. `connections` filters the whole list of segments for one connection after
-- another.
use Rattle.std.specs.Prelude.{◌≡◌, ℕ, List, length, map, nat_lt, if◌then◌else◌, Result, Ok, Err}
use Rattle.toxicap.specs.Words.{enumerate_from, flat_map, CaptureFault, Reading, reading, RunFault, TooManyScenarios, Output, run_fault, SeenCapture}
use Rattle.toxicap.specs.Words.{seen_capture, indexed_segments, connections, unopened_count, Proxy, Contribution, contribution_of}
pub use Rattle.conn_workers.specs.Recordings.{scenario_limit}
use Rattle.toxicap.specs.Words.{capture_of, report_text}

-- what each connection contributes under a scenario, in order of their numbers; a scenario is its own number and its proxies in order
abbrev pub contributions : SeenCapture → ℕ → ℕ × List Proxy → List Contribution
contributions c seed scenario = map (contribution_of c.ticks seed scenario) (connections (indexed_segments 0 c.packets))

unfoldable pub scenario_output : SeenCapture → ℕ → ℕ × List Proxy → Output
scenario_output c seed scenario = record {
  capture = capture_of c.ticks (flat_map (λ p. p.segments) (contributions c seed scenario));
  report = report_text scenario.0 c (unopened_count (indexed_segments 0 c.packets)) (map (λ p. p.line) (contributions c seed scenario));
}

-- the outputs of the scenarios; a seen capture does not tell in which order its file has the bytes of a field
unfoldable pub outputs_of : SeenCapture → List (List Proxy) → ℕ → List Output
outputs_of c scenarios seed = map (scenario_output c seed) (enumerate_from 0 scenarios)

-- ---- the answer to a file

abbrev pub seen_file : Result Reading CaptureFault → Result SeenCapture CaptureFault
seen_file (Ok r) = Ok (seen_capture r.contents)
seen_file (Err f) = Err f

abbrev pub answer_to : Result SeenCapture CaptureFault → List (List Proxy) → ℕ → Result (List Output) RunFault
answer_to (Ok c) scenarios seed = Ok (outputs_of c scenarios seed)
answer_to (Err f) scenarios seed = Err (run_fault f)

-- too many scenarios are refused before the capture is looked at
unfoldable pub answer : List ℕ → List (List Proxy) → ℕ → Result (List Output) RunFault
answer bytes scenarios seed =
    if nat_lt scenario_limit (length scenarios) then Err TooManyScenarios else answer_to (seen_file (reading bytes)) scenarios seed

-- ---- the order of the bytes in a file's fields does not matter

abbrev pub ByteOrderDoesNotMatter : Type 0
ByteOrderDoesNotMatter =
    (first second : List ℕ) (a b : Reading) → reading first ≡ Ok a → reading second ≡ Ok b → a.contents ≡ b.contents
    → (scenarios : List (List Proxy)) (seed : ℕ) → answer first scenarios seed ≡ answer second scenarios seed
