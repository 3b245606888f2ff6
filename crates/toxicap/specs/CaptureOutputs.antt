-- What each scenario answers to a capture that was read, and to the sources that are made of it.
use Rattle.std.specs.Prelude.{ℕ, List, [], ◌++◌, get_or, map}
use Rattle.toxicap.specs.Words.{enumerate_from, flat_map, CaptureView, contents_of, ticks_of, seen_capture, capture_of, Proxy, Delivery, recorded_row, Output}
use Rattle.toxicap.specs.Rehearsal.{outputs_of}
use Rattle.toxicap.specs.declared.sources.Sources.{Sources}

abbrev pub outputs_of_capture : CaptureView → List (List Proxy) → ℕ → List Output
outputs_of_capture capture scenarios seed = outputs_of (seen_capture (contents_of capture)) scenarios seed

abbrev pub no_output : Output
no_output = record { capture = []; report = [] }

-- ---- of sources

abbrev pub row_from : Sources → ℕ × List Proxy → List Delivery
row_from own s = recorded_row own.seed s own.recordings.now

-- the output of a scenario with its number: the segments of its row as a capture, and its row's lines after its report's first two
abbrev pub output_from : Sources → ℕ × List Proxy → Output
output_from own s = record {
  capture = capture_of (ticks_of own.unit) (flat_map (λ d. d.segments) (row_from own s));
  report = get_or own.heads.now s.0 [] ++ flat_map (λ d. d.line) (row_from own s);
}

abbrev pub outputs_of_sources : Sources → List Output
outputs_of_sources own = map (output_from own) (enumerate_from 0 own.scenarios.now)
