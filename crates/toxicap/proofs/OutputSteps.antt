-- The outputs of a capture, by its table and by the sources that are made of it, and their reports as they are held in texts.
use Rattle.std.proofs.Common.{◌≡◌, ◌-◌, List, length, map, sym, ap, ◌∙◌, arith, ◌<◌, ℕ, suc, ◌+◌, [], ◌∷◌, ◌++◌, get_or, refl, ap₂, subst, append_assoc}
use Rattle.std.proofs.Common.{append-nil}
use Rattle.std.proofs.lemmas.List.{length-map, take_all, get_or-map}
use Rattle.std.proofs.lemmas.List.Elements.{All-map}
use Rattle.std.proofs.lemmas.List.Folds.{flat_map-map}
use Rattle.std.proofs.lemmas.List.FromFn.{get_or-enumerate_from, get_or-map-range_with_len, length-enumerate_from, fill_by_all, length-map-range_with_len}
use Rattle.std.proofs.lemmas.List.FromFn.{map-range_with_len_more}
use Rattle.std.proofs.lemmas.List.Concat.{flat_map-append}
use Rattle.conn_table.specs.Partials.{packets_between}
use Rattle.toxicap.specs.{All, enumerate_from, flat_map, range_with_len, IsPermutation, Bor, Packet, CaptureView, contents_of, packet_of, seen_packets}
use Rattle.toxicap.specs.{seen_capture, SeenCapture, indexed_segments, connections, unopened_count, counts_of, without_indices, IndexedConnectionsAgree}
use Rattle.toxicap.specs.{segments_between, table_in, conn_in, whole_table, whole_connections, connections_of, delivery_of, recording_in, recordings_of}
use Rattle.toxicap.specs.{RecordingView, recorded_delivery, recorded_lines, recorded_row, Framed, HasNoKeyTwice, KeysStandOnce, OneOrder, sorted_by_key}
use Rattle.toxicap.specs.{all_segments, capture_in_turn, capture_of, connections_text, counts_text, report_text, Proxy, Delivery, LinesAreContributed}
use Rattle.toxicap.specs.{RowsAreContributed, RowShare, Output, HoldLines, text_of, ShareTexts, joined, reports_of, scenario_output, outputs_of, head_of}
use Rattle.toxicap.specs.{heads_of, RowsHaveNoKeyTwice, no_output, output_from, outputs_of_capture, outputs_of_sources, segments_in, report_at, reports_below}
use Rattle.toxicap.specs.{reports_held}
use Rattle.toxicap.specs.declared.sources.Sources.{Sources}
use Rattle.toxicap.proofs.GatheredRows.{parts_segments, row_stands_once}

-- ---- the table of a capture, against what is seen of it

all_packets : (c : CaptureView) → packets_between c 0 (length c.records) 0 ≡ seen_packets 0 (contents_of c).packets
all_packets c =
    let packets : List Packet = (contents_of c).packets in
    let len : length packets ≡ length c.records = length-map c.records (packet_of c.bytes) in
    let whole : length c.records - 0 ≡ length c.records = omega arith in
    ap (seen_packets 0) (rw whole (take_all (length c.records) packets (omega (arith, len))))

segments_of_all : (c : CaptureView) → segments_between c 0 (length c.records) 0 ≡ indexed_segments 0 (seen_packets 0 (contents_of c).packets)
segments_of_all c = ap (indexed_segments 0) (all_packets c)

connections_are : IndexedConnectionsAgree → (c : CaptureView) → map without_indices (whole_connections c) ≡ connections_of (seen_capture (contents_of c))
connections_are agree c = agree (segments_between c 0 (length c.records) 0) ∙ ap connections (segments_of_all c)

-- a connection of the table for each connection of the capture
pub as_many : IndexedConnectionsAgree → (c : CaptureView) → length (whole_table c).conns ≡ length (connections_of (seen_capture (contents_of c)))
unfolding table_in
as_many agree c =
    length-map (whole_connections c) (conn_in c) ∙ sym (length-map (whole_connections c) without_indices)
    ∙ ap length (connections_are agree c)

-- and what is recorded of each
pub as_many_recorded : (c : CaptureView) → length (recordings_of c) ≡ length (whole_table c).conns
unfolding table_in
as_many_recorded c = length-map (whole_connections c) (recording_in c) ∙ sym (length-map (whole_connections c) (conn_in c))

pub unopened_is : (c : CaptureView) → (whole_table c).unopened ≡ unopened_count (indexed_segments 0 (seen_packets 0 (contents_of c).packets))
unfolding table_in
unopened_is c = ap unopened_count (segments_of_all c)

pub counts_are : (c : CaptureView) → (whole_table c).counts ≡ counts_of (seen_packets 0 (contents_of c).packets)
unfolding table_in
counts_are c = ap counts_of (all_packets c)

-- ---- an output for each scenario

module _ (made : ℕ × List Proxy → Output) (scenarios : List (List Proxy)) where
  as_many_made : length (map made (enumerate_from 0 scenarios)) ≡ length scenarios
  as_many_made = length-map (enumerate_from 0 scenarios) made ∙ length-enumerate_from 0 scenarios

  -- that of the scenario of a number, whatever would stand past the last
  at_number : (number : ℕ) → number < length scenarios → (other : List Proxy)
      → made (number, get_or scenarios number other) ≡ get_or (map made (enumerate_from 0 scenarios)) number no_output
  at_number number within other =
      let inside : number < length (enumerate_from 0 scenarios) = omega (arith, within, length-enumerate_from 0 scenarios) in
      let zero_on : 0 + number ≡ number = omega arith in
      let numbered = get_or-enumerate_from 0 scenarios number (0, other) within ∙ ap (λ (n : ℕ). let p : ℕ × List Proxy = (n, get_or scenarios number other) in p) zero_on in
      ap made (sym numbered) ∙ sym (get_or-map made (enumerate_from 0 scenarios) number (0, other) no_output inside)

-- two ways to make them that agree on each scenario give the same
same_from : (one other : ℕ × List Proxy → Output) (scenarios : List (List Proxy)) (first : ℕ)
    → ((k : ℕ) → k < length scenarios → (s : List Proxy) → one (first + k, s) ≡ other (first + k, s))
    → map one (enumerate_from first scenarios) ≡ map other (enumerate_from first scenarios)
same_from one other [] first each = refl
same_from one other (s ∷ scenarios) first each =
    let P : ℕ → Type 0 = λ n. one (n, s) ≡ other (n, s) in
    let here : first + 0 ≡ first = omega arith in
    let this : one (first, s) ≡ other (first, s) = subst P here (each 0 (omega arith) s) in
    let rest = same_from one other scenarios (first + 1) (λ k below next. let on : first + suc k ≡ first + 1 + k = omega arith in
    subst (λ n. one (n, next) ≡ other (n, next)) on (each (suc k) (omega (arith, below)) next)) in
    ap₂ (λ (o : Output) (os : List Output). o ∷ os) this rest

-- ---- of a capture

module _ (capture : CaptureView) (scenarios : List (List Proxy)) (seed : ℕ) where
  pub as_many_for : length (outputs_of_capture capture scenarios seed) ≡ length scenarios
  unfolding outputs_of
  as_many_for = as_many_made (scenario_output (seen_capture (contents_of capture)) seed) scenarios

  output_at : (number : ℕ) → number < length scenarios
      → scenario_output (seen_capture (contents_of capture)) seed (number, get_or scenarios number []) ≡ get_or (outputs_of_capture capture scenarios seed) number no_output
  unfolding outputs_of
  output_at number within = at_number (scenario_output (seen_capture (contents_of capture)) seed) scenarios number within []

-- the first two lines of one of `count` reports
pub head_at : (capture : CaptureView) (heads : List (List ℕ)) (count : ℕ) → heads ≡ heads_of capture count → (number : ℕ) → number < count
    → get_or heads number [] ≡ head_of capture number
head_at capture heads count are number within =
    ap (λ (hs : List (List ℕ)). get_or hs number []) are ∙ get_or-map-range_with_len (head_of capture) 0 count number number [] within (omega arith)

module _ (capture : CaptureView) (seed : ℕ) (s : ℕ × List Proxy) where
  -- the report of a scenario is the first two lines, and then the lines that are recorded, which are as many as the connections of the table
  report_lines : LinesAreContributed → (lines : List ℕ) → lines ≡ flat_map (λ (line : List ℕ). line) (recorded_lines seed s (recordings_of capture))
      → head_of capture s.0 ++ lines ≡ (scenario_output (seen_capture (contents_of capture)) seed s).report
  unfolding scenario_output report_text
  report_lines contributed lines are =
      let seen : SeenCapture = seen_capture (contents_of capture) in
      let told : List (List ℕ) = recorded_lines seed s (recordings_of capture) in
      let as_many_lines : length (whole_table capture).conns ≡ length told = sym (as_many_recorded capture) ∙ sym (length-map (recordings_of capture) _) in
      append_assoc (counts_text s.0 seen) (connections_text (length (whole_table capture).conns) (whole_table capture).unopened) lines
      ∙ ap₂ (λ (n : ℕ) (ls : List ℕ). counts_text s.0 seen ++ (connections_text n (whole_table capture).unopened ++ ls)) as_many_lines are
      ∙ ap₂ (report_text s.0 seen) (unopened_is capture) (contributed seed capture s)

  -- the segments of its row are what the connections contribute
  row_segments : RowsAreContributed
      → flat_map (λ (d : Delivery). d.segments) (recorded_row seed s (recordings_of capture))
      ≡ all_segments (segments_in (map (delivery_of capture.ticks seed s) (connections_of (seen_capture (contents_of capture)))))
  row_segments contributed =
      ap (flat_map (λ (d : Delivery). d.segments)) (contributed seed capture s)
      ∙ sym (flat_map-map (λ (list : List Framed). list) (λ (d : Delivery). d.segments) (map (delivery_of capture.ticks seed s) (connections_of (seen_capture (contents_of capture)))))

  capture_is : RowsAreContributed
      → capture_of capture.ticks (flat_map (λ (d : Delivery). d.segments) (recorded_row seed s (recordings_of capture)))
      ≡ (scenario_output (seen_capture (contents_of capture)) seed s).capture
  unfolding scenario_output
  capture_is contributed =
      ap (capture_of capture.ticks) (row_segments contributed ∙ parts_segments capture.ticks seed s (connections_of (seen_capture (contents_of capture))))

pub report_is : (capture : CaptureView) (scenarios : List (List Proxy)) (seed : ℕ) → LinesAreContributed → (number : ℕ) → number < length scenarios → (lines : List ℕ)
    → lines ≡ flat_map (λ (line : List ℕ). line) (recorded_lines seed (number, get_or scenarios number []) (recordings_of capture))
    → head_of capture number ++ lines ≡ (get_or (outputs_of_capture capture scenarios seed) number no_output).report
report_is capture scenarios seed contributed number within lines are =
    report_lines capture seed (number, get_or scenarios number []) contributed lines are ∙ ap (λ (o : Output). o.report) (output_at capture scenarios seed number within)

pub stand_once : (capture : CaptureView) (seed : ℕ) (recordings : List RecordingView) → recordings ≡ recordings_of capture → RowsAreContributed → KeysStandOnce
    → RowsHaveNoKeyTwice seed recordings
stand_once capture seed recordings are contributed once = λ s.
    rw are (rw (row_segments capture seed s contributed) (row_stands_once capture.ticks seed s once (seen_capture (contents_of capture))))

-- ---- of shares

-- of the same segments in another order the capture is the same
pub capture_moved : OneOrder → (ticks : ℕ) (xs ys : List Framed) → HasNoKeyTwice xs → IsPermutation xs ys → capture_of ticks ys ≡ capture_of ticks xs
unfolding capture_of
capture_moved one_order ticks xs ys once moved = ap (capture_in_turn ticks) (one_order xs ys once moved)

module _ (rows : List (List Framed)) (row : List RowShare) (are : rows ≡ map (λ s. s.segments) row) where
  pub rows_together : flat_map (λ r. r) rows ≡ flat_map (λ s. s.segments) row
  rows_together = ap (flat_map (λ (r : List Framed). r)) are ∙ flat_map-map (λ (r : List Framed). r) (λ (s : RowShare). s.segments) row

  pub rows_sorted : All (λ s. sorted_by_key s.segments ≡ s.segments) row → All (λ r. sorted_by_key r ≡ r) rows
  rows_sorted sorted = subst (All (λ r. sorted_by_key r ≡ r)) (sym are) (All-map (λ (r : List Framed). sorted_by_key r ≡ r) (λ (s : RowShare). s.segments) row sorted)

-- ---- of sources

pub as_many_outputs : (own : Sources) → length (outputs_of_sources own) ≡ length own.scenarios.now
as_many_outputs own = as_many_made (output_from own) own.scenarios.now

-- that of the scenario of a number, whatever would stand past the last
pub output_is : (own : Sources) (number : ℕ) → number < length own.scenarios.now → (other : List Proxy)
    → output_from own (number, get_or own.scenarios.now number other) ≡ get_or (outputs_of_sources own) number no_output
output_is own number within other = at_number (output_from own) own.scenarios.now number within other

-- what sources have that are made of a capture
module _ (capture : CaptureView) (scenarios : List (List Proxy)) (seed ticks : ℕ) (heads : List (List ℕ)) (recordings : List RecordingView)
    (ticks_are : ticks ≡ capture.ticks) (heads_are : heads ≡ heads_of capture (length scenarios)) (recordings_are : recordings ≡ recordings_of capture)
    (rows : RowsAreContributed) (lines : LinesAreContributed) where
  abbrev pub made_of : ℕ × List Proxy → Output
  made_of s = record {
    capture = capture_of ticks (flat_map (λ d. d.segments) (recorded_row seed s recordings));
    report = get_or heads s.0 [] ++ flat_map (λ d. d.line) (recorded_row seed s recordings);
  }

  lines_are : (s : ℕ × List Proxy)
      → flat_map (λ (d : Delivery). d.line) (recorded_row seed s recordings) ≡ flat_map (λ (line : List ℕ). line) (recorded_lines seed s (recordings_of capture))
  lines_are s =
      flat_map-map (λ (d : Delivery). d.line) (recorded_delivery seed s) recordings
      ∙ sym (flat_map-map (λ (line : List ℕ). line) (λ (r : RecordingView). (recorded_delivery seed s r).line) recordings)
      ∙ ap (λ (rs : List RecordingView). flat_map (λ (line : List ℕ). line) (recorded_lines seed s rs)) recordings_are

  each_is : (number : ℕ) → number < length scenarios → (proxies : List Proxy) → made_of (number, proxies) ≡ scenario_output (seen_capture (contents_of capture)) seed (number, proxies)
  unfolding scenario_output
  each_is number within proxies =
      let s : ℕ × List Proxy = (number, proxies) in
      let of_row : (made_of s).capture ≡ (scenario_output (seen_capture (contents_of capture)) seed s).capture =
      ap₂ (λ (t : ℕ) (rs : List RecordingView). capture_of t (flat_map (λ (d : Delivery). d.segments) (recorded_row seed s rs))) ticks_are recordings_are
      ∙ capture_is capture seed s rows in
      let of_lines : (made_of s).report ≡ (scenario_output (seen_capture (contents_of capture)) seed s).report =
      ap (λ (head : List ℕ). head ++ flat_map (λ (d : Delivery). d.line) (recorded_row seed s recordings)) (head_at capture heads (length scenarios) heads_are number within)
      ∙ report_lines capture seed s lines _ (lines_are s) in
      ap₂ (λ (a b : List ℕ). let o : Output = record { capture = a; report = b } in o) of_row of_lines

  pub outputs_are : map made_of (enumerate_from 0 scenarios) ≡ outputs_of_capture capture scenarios seed
  unfolding outputs_of
  outputs_are =
      same_from made_of (scenario_output (seen_capture (contents_of capture)) seed) scenarios 0
      (λ k below proxies. each_is (0 + k) (omega (arith, below)) proxies)

-- ---- reports held in texts

pub below_more : (heads : List (List ℕ)) (shares : List ShareTexts) (number : ℕ) → reports_below heads shares number ++ report_at heads shares number ≡ reports_below heads shares (number + 1)
below_more heads shares number =
    ap (λ (more : List ℕ). reports_below heads shares number ++ more) (sym (append-nil (report_at heads shares number)))
    ∙ sym (flat_map-append (λ (report : List ℕ). report) (map (report_at heads shares) (range_with_len 0 number)) (report_at heads shares number ∷ []))
    ∙ ap (flat_map (λ (report : List ℕ). report)) (sym (map-range_with_len_more (report_at heads shares) 0 number number (omega arith)))

pub joined_more : (texts : List (Bor (List ℕ))) (text : Bor (List ℕ)) → joined (texts ++ text ∷ []) ≡ joined texts ++ text.now
joined_more texts text = flat_map-append (λ (t : Bor (List ℕ)). t.now) texts (text ∷ []) ∙ ap (λ (more : List ℕ). joined texts ++ more) (append-nil text.now)

-- those of all scenarios
module _ (capture : CaptureView) (scenarios : List (List Proxy)) (seed : ℕ) (contributed : LinesAreContributed)
    (heads : List (List ℕ)) (heads_are : heads ≡ heads_of capture (length scenarios))
    (shares : List ShareTexts) (hold : HoldLines seed scenarios (recordings_of capture) shares) where
  abbrev outputs : List Output
  outputs = outputs_of_capture capture scenarios seed

  pub as_many_heads : length heads ≡ length scenarios
  as_many_heads = ap length heads_are ∙ length-map-range_with_len (head_of capture) 0 (length scenarios)

  each : (number : ℕ) → number < length scenarios → get_or (map (λ (o : Output). o.report) outputs) number [] ≡ report_at heads shares number
  each number within =
      get_or-map (λ (o : Output). o.report) outputs number no_output [] (omega (arith, within, as_many_for capture scenarios seed))
      ∙ sym (report_is capture scenarios seed contributed number within (text_of number shares) (hold.lines number within))
      ∙ ap (λ (h : List ℕ). h ++ text_of number shares) (sym (head_at capture heads (length scenarios) heads_are number within))

  pub held_are : reports_held heads shares ≡ reports_of outputs
  held_are =
      ap (reports_below heads shares) as_many_heads
      ∙ ap (flat_map (λ (report : List ℕ). report))
      (sym (fill_by_all (report_at heads shares) (map (λ (o : Output). o.report) outputs) (length scenarios) [] (length-map outputs _ ∙ as_many_for capture scenarios seed) each))
      ∙ flat_map-map (λ (report : List ℕ). report) (λ (o : Output). o.report) outputs
