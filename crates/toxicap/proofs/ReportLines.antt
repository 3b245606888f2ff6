-- The text of a report, cut at its line feeds, and reports of what was seen of a capture, which are those of the whole of it.
use Rattle.std.proofs.Common.{◌≡◌, ℕ, zero, suc, ◌+◌, ◌/◌, ◌%◌, ◌==◌, ◌&&◌, not, Bool, true, false, nat_lt, cond, List, [], ◌∷◌, ◌++◌, length, map, Option}
use Rattle.std.proofs.Common.{Some, None, refl, ap, arith, ne_eqb, if◌then◌else◌, ◌<◌, ◌≤◌, Result, Ok, Err, sym, ap₂, ◌∙◌}
use Rattle.std.specs.Prelude.{slice_get, IfSome}
use Rattle.std.proofs.lemmas.Bool.{lt-ltb, le-ltb}
use Rattle.pcap_records.specs.Heads.{heads_of}
use Rattle.toxicap.specs.{flat_map, slice_split, onto_first, decimal, digits, digits_onto, digit_glyph, Peer, SeenCapture, Counts, Line, End, live, fin, close}
use Rattle.toxicap.specs.{reset, RecordedSide, RecordedConnection, DeliveredConnection, heading_text, first_classes_text, other_classes_text, counts_text}
use Rattle.toxicap.specs.{connections_text, peer_text, proxy_text, end_word, side_text, vlan_text, peers_text, connection_text, report_text, line_of}
use Rattle.toxicap.specs.{enumerate_from, CaptureFault, capture_refusal, Contents, Reading, reading, heads_in, seen_capture, Proxy, run_summary}
use Rattle.toxicap.specs.{ReportSeesHeads, SummarySeesHeads, ReportSeesLengths, report_of, RunFault, TooManyScenarios, run_fault, run_refusal, reports_of}
use Rattle.toxicap.specs.{reports_in, answer, answer_to, outputs_of, scenario_limit, scenario_output, seen_file, summary_of_bytes, ReportsSeeLengths}
use Rattle.pcap_records.specs.declared.fault.CaptureFault.TheVariants as of_capture

-- ---- each line that is written ends with a line feed, and has no other

abbrev is_empty : List ℕ → Bool
is_empty [] = true
is_empty (x ∷ xs) = false

-- no line feed stands in a text, except one at the end of a whole line
abbrev pub is_line : Bool → List ℕ → Bool
is_line whole [] = not whole
is_line whole (x ∷ xs) = if x == 10 then whole && is_empty xs else is_line whole xs

abbrev pub line_body : List ℕ → List ℕ
line_body [] = []
line_body (x ∷ xs) = if x == 10 then [] else x ∷ line_body xs

-- ---- what is written

after : (whole : Bool) (xs ys : List ℕ) → is_line false xs ≡ true → is_line whole ys ≡ true → is_line whole (xs ++ ys) ≡ true
after whole [] ys is rest = rest
after whole (x ∷ xs) ys is rest = by (x == 10) (λ h. after whole xs ys h rest) is
  where
    by : (b : Bool) → (is_line false xs ≡ true → is_line whole (xs ++ ys) ≡ true) → (if b then false else is_line false xs) ≡ true
        → (if b then whole && is_empty (xs ++ ys) else is_line whole (xs ++ ys)) ≡ true
    by true more is = absurd cc
    by false more is = more is

glyph_is : (d : ℕ) → (digit_glyph false d == 10) ≡ false
glyph_is d =
    elim (nat_lt d 10) as (λ b. ((if b then 48 + d else 87 + d) == 10) ≡ false)
    [ true ↦ ne_eqb (48 + d) 10 (λ q. absurd (omega arith)) | false ↦ ne_eqb (87 + d) 10 (λ q. absurd (omega arith)) ]

digits_are : (k n : ℕ) (acc : List ℕ) → is_line false acc ≡ true → is_line false (digits_onto k 10 false n acc) ≡ true
digits_are zero n acc is = is
digits_are (suc k) n acc is =
    let digit : ℕ = digit_glyph false (n % 10) in
    let more : is_line false (digit ∷ acc) ≡ true = rw (glyph_is (n % 10)) is in
    elim (n / 10 == 0) as (λ b. is_line false (if b then digit ∷ acc else digits_onto k 10 false (n / 10) (digit ∷ acc)) ≡ true)
    [ true ↦ more | false ↦ digits_are k (n / 10) (digit ∷ acc) more ]

number : (n : ℕ) → is_line false (decimal n) ≡ true
unfolding digits
number n = digits_are 64 n [] refl

number_then : (whole : Bool) (n : ℕ) (ys : List ℕ) → is_line whole ys ≡ true → is_line whole (decimal n ++ ys) ≡ true
number_then whole n ys rest = after whole (decimal n) ys (number n) rest

peer_is : (p : Peer) → is_line false (peer_text p) ≡ true
peer_is p = number_then false _ _ (number_then false _ _ (number_then false _ _ (number_then false _ _ (number _))))

proxy_is : (p : Option ℕ) → is_line false (proxy_text p) ≡ true
proxy_is None = refl
proxy_is (Some n) = number n

vlan_is : (v : Option ℕ) → is_line false (vlan_text v) ≡ true
vlan_is None = refl
vlan_is (Some n) = number n

end_is : (refused : Bool) (opened : ℕ) (e : End) → is_line false (end_word refused opened e) ≡ true
end_is true opened e = refl
end_is false opened live = refl
end_is false opened (fin at) = number _
end_is false opened (close at) = number _
end_is false opened (reset at) = number _

side_is : (opened : ℕ) (refused : Bool) (s : RecordedSide) (f : Line) → is_line false (side_text opened refused s f) ≡ true
side_is opened refused s f =
    number_then false _ _ (number_then false _ _ (number_then false _ _ (after false (end_word refused opened f.end) _ (end_is refused opened f.end) (number _))))

peers_are : (number_of : ℕ) (vlan : Option ℕ) (client server : Peer) (proxy : Option ℕ) → is_line false (peers_text number_of vlan client server proxy) ≡ true
peers_are number_of vlan client server proxy =
    number_then false _ _ (after false (peer_text client) _ (peer_is client) (after false (peer_text server) _ (peer_is server) (after false (vlan_text vlan) _ (vlan_is vlan) (proxy_is proxy))))

pub connection_is : (number_of : ℕ) (vlan : Option ℕ) (client server : Peer) (r : RecordedConnection) (d : DeliveredConnection)
    → is_line true (connection_text number_of vlan client server r d) ≡ true
unfolding connection_text
connection_is number_of vlan client server r d =
    after true (peers_text number_of vlan client server d.proxy) _ (peers_are number_of vlan client server d.proxy)
    (after true (side_text r.opened d.refused r.up d.up) _ (side_is r.opened d.refused r.up d.up)
    (after true (side_text r.opened d.refused r.down d.down) _ (side_is r.opened d.refused r.down d.down) refl))

counts_are : (s records rest : ℕ) (n : Counts) → is_line true (heading_text s records rest ++ (first_classes_text n ++ other_classes_text n)) ≡ true
counts_are s records rest n =
    after true (heading_text s records rest) _ (number_then false _ _ (number_then false _ _ (number _)))
    (after true (first_classes_text n) _ (number_then false _ _ (number_then false _ _ (number_then false _ _ (number _))))
    (number_then true _ _ (number_then true _ _ (number_then true _ _ (number_then true _ _ (number_then true _ _ refl))))))

-- ---- what is cut

empty_is : (xs : List ℕ) → is_empty xs ≡ true → xs ≡ []
empty_is [] is = refl
empty_is (x ∷ xs) is = absurd cc

cut_line : (xs rest : List ℕ) → is_line true xs ≡ true → slice_split (λ b. b == 10) (xs ++ rest) ≡ line_body xs ∷ slice_split (λ b. b == 10) rest
cut_line [] rest is = absurd cc
cut_line (x ∷ xs) rest is = by (x == 10) (λ h. cut_line xs rest h) is
  where
    by : (b : Bool) → (is_line true xs ≡ true → slice_split (λ b. b == 10) (xs ++ rest) ≡ line_body xs ∷ slice_split (λ b. b == 10) rest)
        → (if b then is_empty xs else is_line true xs) ≡ true
        → cond b ([] ∷ slice_split (λ b. b == 10) (xs ++ rest)) (onto_first x (slice_split (λ b. b == 10) (xs ++ rest))) ≡ (if b then [] else x ∷ line_body xs) ∷ slice_split (λ b. b == 10) rest
    by true more is = rw (empty_is xs is) refl
    by false more is = rw (more is) refl

module _ {X : Type 0} (line : X → List ℕ) (are : (x : X) → is_line true (line x) ≡ true) where
  line_at : (xs : List X) (k : ℕ) (x : X) → slice_get xs k ≡ Some x → line_of (flat_map (λ l. l) (map line xs)) k ≡ Some (line_body (line x))
  line_at [] k x is = absurd cc
  line_at (y ∷ xs) zero x is = let same : y ≡ x = cc in rw (cut_line (line y) (flat_map (λ l. l) (map line xs)) (are y)) (ap (λ z. Some (line_body (line z))) same)
  line_at (y ∷ xs) (suc k) x is = rw (cut_line (line y) (flat_map (λ l. l) (map line xs)) (are y)) (line_at xs k x is)

  -- after the head, one line for each
  pub line_in_report : (s : ℕ) (c : SeenCapture) (unopened : ℕ) (xs : List X) (k : ℕ) (x : X) → slice_get xs k ≡ Some x
      → line_of (report_text s c unopened (map line xs)) (k + 2) ≡ Some (line_body (line x))
  unfolding report_text counts_text connections_text
  line_in_report s c unopened xs k x is =
      let head : is_line true (counts_text s c) ≡ true = counts_are _ _ _ _ in
      let second : is_line true (connections_text (length (map line xs)) unopened) ≡ true = number_then true _ _ (number_then true _ _ refl) in
      let two : k + 2 ≡ suc (suc k) = omega arith in
      rw (two, cut_line _ (connections_text (length (map line xs)) unopened ++ flat_map (λ l. l) (map line xs)) head, cut_line _ (flat_map (λ l. l) (map line xs)) second) (line_at xs k x is)

-- ---- reports of what was seen

module _ (one other : SeenCapture) (seed : ℕ) (alike : (s : ℕ × List Proxy) → report_of one seed s ≡ report_of other seed s) where
  output_alike : (s : ℕ × List Proxy) → (scenario_output one seed s).report ≡ (scenario_output other seed s).report
  unfolding scenario_output
  output_alike s = alike s

  each_alike : (scenarios : List (ℕ × List Proxy)) → reports_of (map (scenario_output one seed) scenarios) ≡ reports_of (map (scenario_output other seed) scenarios)
  each_alike [] = refl
  each_alike (s ∷ scenarios) = ap₂ (λ (report more : List ℕ). report ++ more) (output_alike s) (each_alike scenarios)

  reports_alike : (scenarios : List (List Proxy)) → reports_of (outputs_of one scenarios seed) ≡ reports_of (outputs_of other scenarios seed)
  unfolding outputs_of
  reports_alike scenarios = each_alike (enumerate_from 0 scenarios)

heads_fault : (r : Result Reading CaptureFault) (fault : CaptureFault) → heads_in r ≡ Err fault → r ≡ Err fault
heads_fault (Ok c) fault is = absurd cc
heads_fault (Err other) fault is = let same : other ≡ fault = cc in ap Err same

module _ (bytes : List ℕ) (scenarios : List (List Proxy)) (seed : ℕ) where
  pub too_many : scenario_limit < length scenarios → answer bytes scenarios seed ≡ Err TooManyScenarios
  unfolding answer
  too_many many = rw lt-ltb refl

  refused_answer : length scenarios ≤ scenario_limit → (fault : CaptureFault) → reading bytes ≡ Err fault → answer bytes scenarios seed ≡ Err (run_fault fault)
  unfolding answer
  refused_answer few fault is = rw (le-ltb, is) refl

  refused_as : length scenarios ≤ scenario_limit → (fault : CaptureFault) → heads_in (reading bytes) ≡ Err fault → answer bytes scenarios seed ≡ Err (run_fault fault)
  refused_as few fault is = refused_answer few fault (heads_fault (reading bytes) fault is)

  pub refused_heads : length scenarios ≤ scenario_limit → (fault : CaptureFault) → IfSome (capture_refusal fault) (λ refused. heads_in (reading bytes) ≡ Err refused)
      → IfSome (run_refusal (run_fault fault)) (λ refused. answer bytes scenarios seed ≡ Err refused)
  refused_heads few (of_capture.Memory e) is = tt
  refused_heads few fault is = refused_as few fault is

  read_answer : length scenarios ≤ scenario_limit → (r : Reading) → reading bytes ≡ Ok r → answer bytes scenarios seed ≡ Ok (outputs_of (seen_capture r.contents) scenarios seed)
  unfolding answer
  read_answer few r is = rw (le-ltb, is) refl

  -- the reports of a capture with the same heads are its reports
  pub heads_reported : ReportSeesHeads → length scenarios ≤ scenario_limit → (c : Contents) → heads_in (reading bytes) ≡ Ok (heads_of c)
      → reports_in (answer bytes scenarios seed) ≡ Ok (reports_of (outputs_of (seen_capture c) scenarios seed))
  heads_reported sees few c is = by (reading bytes) refl is
    where
      by : (read : Result Reading CaptureFault) → reading bytes ≡ read → heads_in read ≡ Ok (heads_of c)
          → reports_in (answer bytes scenarios seed) ≡ Ok (reports_of (outputs_of (seen_capture c) scenarios seed))
      by (Ok r) read is =
          let same : heads_of c ≡ heads_of r.contents = cc in
          ap reports_in (read_answer few r read) ∙ ap Ok (sym (reports_alike (seen_capture c) (seen_capture r.contents) seed (sees c r.contents same seed) scenarios))
      by (Err fault) read is = absurd cc

-- and so is the summary
pub heads_summed : (bytes : List ℕ) (scenarios : List (List Proxy)) → SummarySeesHeads → (c : Contents) → heads_in (reading bytes) ≡ Ok (heads_of c)
    → summary_of_bytes bytes scenarios ≡ Ok (run_summary (seen_capture c) scenarios)
heads_summed bytes scenarios sees c is = by (reading bytes) refl is
  where
    by : (read : Result Reading CaptureFault) → reading bytes ≡ read → heads_in read ≡ Ok (heads_of c) → summary_of_bytes bytes scenarios ≡ Ok (run_summary (seen_capture c) scenarios)
    by (Ok r) read is =
        let same : heads_of r.contents ≡ heads_of c = cc in
        rw read (ap Ok (sees r.contents c same scenarios))
    by (Err fault) read is = absurd cc

module _ (sees : ReportSeesLengths) (scenarios : List (List Proxy)) (seed : ℕ) where
  reports_by : Bool → Result SeenCapture CaptureFault → Result (List ℕ) RunFault
  reports_by too_many seen = reports_in (if too_many then Err TooManyScenarios else answer_to seen scenarios seed)

  alike_by : (too_many : Bool) (one other : SeenCapture) → ((s : ℕ × List Proxy) → report_of one seed s ≡ report_of other seed s) → reports_by too_many (Ok one) ≡ reports_by too_many (Ok other)
  unfolding reports_by
  alike_by true one other alike = refl
  alike_by false one other alike = ap Ok (reports_alike one other seed alike scenarios)

  answers_alike : (one other : List ℕ) (a b : SeenCapture) → seen_file (reading one) ≡ Ok a → seen_file (reading other) ≡ Ok b
      → ((s : ℕ × List Proxy) → report_of a seed s ≡ report_of b seed s) → reports_in (answer one scenarios seed) ≡ reports_in (answer other scenarios seed)
  unfolding answer reports_by
  answers_alike one other a b is_one is_other alike =
      let many = nat_lt scenario_limit (length scenarios) in
      ap (reports_by many) is_one ∙ alike_by many a b alike ∙ sym (ap (reports_by many) is_other)

pub reports_see_lengths : ReportSeesLengths → ReportsSeeLengths
reports_see_lengths sees one other a b is_one is_other differ scenarios seed =
    answers_alike sees scenarios seed one other (seen_capture a.contents) (seen_capture b.contents) (ap seen_file is_one) (ap seen_file is_other)
    (sees (seen_capture a.contents) (seen_capture b.contents) differ seed)
