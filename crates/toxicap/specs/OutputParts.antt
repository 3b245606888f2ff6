-- What outputs are made of: heads and rows, what connections contribute to a scenario, reports that are held in texts, and drafts at their places.
use Rattle.std.specs.Prelude.{ℕ, List, ◌++◌, length, map, [], get_or, ◌≡◌, ◌+◌, ◌*◌, ◌∷◌}
use Rattle.toxicap.specs.Words.{flat_map, range_with_len, CaptureView, contents_of, seen_capture, SeenCapture, HasNoKeyTwice, counts_text, connections_text}
use Rattle.toxicap.specs.Words.{report_text, Proxy, whole_table, RecordingView, recorded_row, Framed, all_segments, capture_of, Delivery, Output, text_of}
use Rattle.toxicap.specs.Words.{ShareTexts, draft_path}

-- ---- heads and rows

abbrev pub head_of : CaptureView → ℕ → List ℕ
head_of capture number =
    counts_text number (seen_capture (contents_of capture)) ++ connections_text (length (whole_table capture).conns) (whole_table capture).unopened

abbrev pub heads_of : CaptureView → ℕ → List (List ℕ)
heads_of capture count = map (head_of capture) (range_with_len 0 count)

-- whatever the scenario, no key stands twice among the segments of its row
abbrev pub RowsHaveNoKeyTwice : ℕ → List RecordingView → Type 0
RowsHaveNoKeyTwice seed recordings = (s : ℕ × List Proxy) → HasNoKeyTwice (flat_map (λ d. d.segments) (recorded_row seed s recordings))

-- ---- what a scenario answers, of what each connection contributes to it

abbrev pub segments_in : List Delivery → List (List Framed)
segments_in row = map (λ d. d.segments) row

abbrev pub lines_in : List Delivery → List (List ℕ)
lines_in row = map (λ d. d.line) row

-- by the number of the scenario, the number of segments of no connection, and each connection's segments and line
abbrev pub gathered_output : SeenCapture → ℕ → ℕ → List (List Framed) → List (List ℕ) → Output
gathered_output c number unopened segments lines = record {
  capture = capture_of c.ticks (all_segments segments);
  report = report_text number c unopened lines;
}

-- ---- reports that are held in texts: the first two lines of each, and shares of lines, with a text for each scenario

-- the report of the scenario at a place
abbrev pub report_at : List (List ℕ) → List ShareTexts → ℕ → List ℕ
report_at heads shares place = get_or heads place [] ++ text_of place shares

-- those of the scenarios before a place, one after another
abbrev pub reports_below : List (List ℕ) → List ShareTexts → ℕ → List ℕ
reports_below heads shares count = flat_map (λ report. report) (map (report_at heads shares) (range_with_len 0 count))

-- those of all
abbrev pub reports_held : List (List ℕ) → List ShareTexts → List ℕ
reports_held heads shares = reports_below heads shares (length heads)

-- ---- outputs of which both files are drafts of a folder: the places that these have there

-- the drafts of the output at a place: at twice that place of the folder, and at the next
abbrev pub AreAtPlace : {Draft : Type 0} → (Draft → List ℕ) → List ℕ → ℕ → Draft × Draft → Type 0
AreAtPlace path_of folder place drafted = (path_of drafted.0 ≡ draft_path folder (2 * place)) × (path_of drafted.1 ≡ draft_path folder (2 * place + 1))

pub record PlacedOutput : Type 0 where
  pub output : Output
  pub capture_path : List ℕ
  pub report_path : List ℕ

abbrev pub placed_output : List ℕ → ℕ → Output → PlacedOutput
placed_output folder place output = record {
  output = output;
  capture_path = draft_path folder (2 * place);
  report_path = draft_path folder (2 * place + 1);
}

abbrev pub placed_from : List ℕ → ℕ → List Output → List PlacedOutput
placed_from folder place [] = []
placed_from folder place (output ∷ outputs) = placed_output folder place output ∷ placed_from folder (place + 1) outputs

abbrev pub paths_in : List PlacedOutput → List (List ℕ)
paths_in [] = []
paths_in (p ∷ placed) = p.capture_path ∷ p.report_path ∷ paths_in placed
