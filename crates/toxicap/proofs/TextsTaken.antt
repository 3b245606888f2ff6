-- What texts call for, by what is read of them: a refusal, which is no fault of a reader or a writer, or a rehearsal.
use Rattle.std.proofs.Common.{◌≡◌, ℕ, ◌≤◌, Bool, true, false, nat_lt, if◌then◌else◌, List, [], length, Option, Some, None, Result, Ok, Err, refl, ap, ◌==◌, ◌∷◌}
use Rattle.std.proofs.Common.{◌++◌, count_by, IfErr, position, ◌%◌}
use Rattle.std.specs.Prelude.{IfSome}
use Rattle.std.proofs.lemmas.Bool.{le-ltb}
use Rattle.std.proofs.lemmas.Option.{IfSome_then}
use Rattle.toxicap.specs.{Agrees, AgreesUnlessMemory, Refuses, capture_limit, reading, and_then, KnownHost, Proxy, RunFault, CaptureTooLong, BadDump}
use Rattle.toxicap.specs.{TooManyScenarios, Output, is_dump, is_foreign, dumped_bytes, dump_reading, dump_reading_from, run_refusal, run_fault, is_hex_digit}
use Rattle.toxicap.specs.{CaptureFault, SeenCapture, scenario, Refusal, capture_bytes_of, inputs_from, scenarios_from, IsOfText, RefusedByTexts, answer_of}
use Rattle.toxicap.specs.{numbered, made_by, made_of, reports_in, UnlessMemory, summary_of_bytes, summary_of_texts, answer, answer_to, scenario_limit}
use Rattle.toxicap.specs.{seen_file}
use Rattle.toxicap.specs.declared.reading.Inputs.{Inputs}
use Rattle.pcap_records.specs.declared.fault.CaptureFault.TheVariants as of_capture

-- out of memory is told where it may be
pub told_refusal : {G B : Type 0} (refusal : Option G) (expected : Result B G) → Refuses refusal expected → IfSome refusal (λ refused. expected ≡ Err refused)
told_refusal (Some fault) expected is = is
told_refusal None expected is = tt

pub agrees_unless_memory : {A B F G : Type 0} (refusal : F → Option G) (view : A → B) (result : Result A F) (expected : Result B G)
    → Agrees refusal view result expected → AgreesUnlessMemory refusal view result expected
agrees_unless_memory refusal view (Ok x) expected is = is
agrees_unless_memory refusal view (Err fault) expected is = told_refusal (refusal fault) expected is

-- what is refused of inputs is refused of what they call for
pub refused_inputs : {A : Type 0} (f : Inputs → Result A RunFault) (inputs : Result Inputs RunFault) (fault : RunFault) → UnlessMemory inputs (Err fault) → UnlessMemory (and_then inputs f) (Err fault)
refused_inputs f inputs fault is = IfSome_then (run_refusal fault) is (λ refused e. ap (λ (i : Result Inputs RunFault). and_then i f) e)

module _ (hosts : List KnownHost) (texts : List (List ℕ)) (text : List ℕ) where
  -- the summary depends on no seed
  pub taken_summary : (seed : ℕ) (i : Inputs) → inputs_from hosts texts seed text ≡ Ok i → summary_of_texts hosts texts text ≡ summary_of_bytes i.capture i.scenarios
  unfolding inputs_from
  taken_summary seed i is = by (nat_lt capture_limit (length text)) (capture_bytes_of text) (scenarios_from hosts [] texts) is
    where
      by : (long : Bool) (bytes : Result (List ℕ) RunFault) (scenarios : Result (List (List Proxy)) RunFault)
          → (if long then Err CaptureTooLong else and_then bytes (λ b. and_then scenarios (λ s. Ok (record { capture = b; scenarios = s; seed = seed })))) ≡ Ok i
          → and_then bytes (λ b. and_then scenarios (summary_of_bytes b)) ≡ summary_of_bytes i.capture i.scenarios
      by true bytes scenarios is = absurd cc
      by false (Err fault) scenarios is = absurd cc
      by false (Ok b) (Err fault) is = absurd cc
      by false (Ok b) (Ok s) is =
          let same : record { capture = b; scenarios = s; seed = seed } ≡ i = cc in
          ap (λ (i : Inputs). summary_of_bytes i.capture i.scenarios) same

  module _ (seed : ℕ) (within : length text ≤ capture_limit) (not_dump : is_dump text ≡ false) where
    -- a text that is no dump stands for its own bytes
    pub seen_inputs : (scenarios : List (List Proxy)) → scenarios_from hosts [] texts ≡ Ok scenarios
        → inputs_from hosts texts seed text ≡ Ok (record { capture = text; scenarios = scenarios; seed = seed })
    unfolding inputs_from
    seen_inputs scenarios read = rw (le-ltb, not_dump, read) refl

    pub refused_scenarios : (fault : RunFault) → AgreesUnlessMemory run_refusal (λ (scenarios : List (List Proxy)). scenarios) (Err fault) (scenarios_from hosts [] texts)
        → UnlessMemory (inputs_from hosts texts seed text) (Err fault)
    unfolding inputs_from
    refused_scenarios fault is = IfSome_then (run_refusal fault) is (λ refused e. rw (le-ltb, not_dump, e) refl)

pub is_fault : (expected : Result (List Output) RunFault) (fault : RunFault) → reports_in expected ≡ Err fault → expected ≡ Err fault
is_fault (Ok outputs) fault is = absurd cc
is_fault (Err other) fault is = let same : other ≡ fault = cc in ap Err same

pub of_fault_printed : (fault : RunFault) (expected : Result (List Output) RunFault)
    → UnlessMemory expected (Err fault)
    → UnlessMemory (reports_in expected) (Err fault)
of_fault_printed fault expected is = IfSome_then (run_refusal fault) is (λ f refused. ap reports_in refused)

-- ---- no fault of a reader or a writer

of_after : {A B : Type 0} (first : Result A RunFault) (next : A → Result B RunFault) → IfErr first IsOfText → ((a : A) → IfErr (next a) IsOfText) → IfErr (and_then first next) IsOfText
of_after (Ok a) next own rest = rest a
of_after (Err fault) next own rest = own

of_capture_fault : (f : CaptureFault) → IsOfText (run_fault f)
of_capture_fault of_capture.ShortHeader = tt
of_capture_fault f = tt

of_answer_to : (r : Result SeenCapture CaptureFault) (scenarios : List (List Proxy)) (seed : ℕ) → IfErr (answer_to r scenarios seed) IsOfText
of_answer_to (Ok c) scenarios seed = tt
of_answer_to (Err f) scenarios seed = of_capture_fault f

pub of_answer : (bytes : List ℕ) (scenarios : List (List Proxy)) (seed : ℕ) → IfErr (answer bytes scenarios seed) IsOfText
unfolding answer
of_answer bytes scenarios seed = by (nat_lt scenario_limit (length scenarios))
  where
    by : (b : Bool) → IfErr (if b then Err TooManyScenarios else answer_to (seen_file (reading bytes)) scenarios seed) IsOfText
    by true = tt
    by false = of_answer_to (seen_file (reading bytes)) scenarios seed

of_dump : (text : List ℕ) → IfErr (dump_reading text) IsOfText
unfolding dump_reading
of_dump text = by (position is_foreign text)
  where
    odd : (b : Bool) → IfErr (if b then Err (BadDump (length text)) else Ok (dumped_bytes text)) IsOfText
    odd true = tt
    odd false = tt

    by : (o : Option ℕ) → IfErr (dump_reading_from o text) IsOfText
    by (Some at) = tt
    by None = odd (count_by is_hex_digit text % 2 == 1)

of_capture_bytes : (text : List ℕ) → IfErr (capture_bytes_of text) IsOfText
of_capture_bytes text = by (is_dump text)
  where
    by : (b : Bool) → IfErr (if b then dump_reading text else Ok text) IsOfText
    by true = of_dump text
    by false = tt

of_numbered : (number : ℕ) (r : Result (List Proxy) Refusal) → IfErr (numbered number r) IsOfText
of_numbered number (Ok proxies) = tt
of_numbered number (Err refusal) = tt

of_scenarios : (hosts : List KnownHost) (earlier : List (List Proxy)) (texts : List (List ℕ)) → IfErr (scenarios_from hosts earlier texts) IsOfText
unfolding scenarios_from
of_scenarios hosts earlier [] = tt
of_scenarios hosts earlier (text ∷ texts) =
    of_after (numbered (length earlier) (scenario hosts text)) (λ proxies. scenarios_from hosts (earlier ++ proxies ∷ []) texts)
    (of_numbered (length earlier) (scenario hosts text)) (λ proxies. of_scenarios hosts (earlier ++ proxies ∷ []) texts)

abbrev inputs_with : ℕ → List ℕ → List (List Proxy) → Result Inputs RunFault
inputs_with seed bytes scenarios = Ok (record { capture = bytes; scenarios = scenarios; seed = seed })

abbrev inputs_under : List KnownHost → List (List ℕ) → ℕ → List ℕ → Result Inputs RunFault
inputs_under hosts texts seed bytes = and_then (scenarios_from hosts [] texts) (inputs_with seed bytes)

pub of_called : RefusedByTexts
unfolding inputs_from
of_called hosts texts seed text = by (nat_lt capture_limit (length text))
  where
    by : (b : Bool) → IfErr (and_then (if b then Err CaptureTooLong else and_then (capture_bytes_of text) (inputs_under hosts texts seed)) answer_of) IsOfText
    by true = tt
    by false =
        of_after (and_then (capture_bytes_of text) (inputs_under hosts texts seed)) answer_of
        (of_after (capture_bytes_of text) (inputs_under hosts texts seed) (of_capture_bytes text)
        (λ bytes. of_after (scenarios_from hosts [] texts) (inputs_with seed bytes) (of_scenarios hosts [] texts) (λ scenarios. tt)))
        (λ i. of_answer i.capture i.scenarios i.seed)

-- ---- what is made of inputs is refused as their rehearsal is

module _ {A : Type 0} (make : SeenCapture → List (List Proxy) → ℕ → A) (i : Inputs) where
  pub made_as : length i.scenarios ≤ scenario_limit → (c : SeenCapture) → seen_file (reading i.capture) ≡ Ok c → made_of make i ≡ Ok (make c i.scenarios i.seed)
  made_as few c seen = rw (le-ltb, seen) refl

  pub refused_as : (refused : Option RunFault) → Refuses refused (answer_of i) → Refuses refused (made_of make i)
  unfolding answer
  refused_as refused is = by (nat_lt scenario_limit (length i.scenarios)) (seen_file (reading i.capture)) refused is
    where
      by : (many : Bool) (seen : Result SeenCapture CaptureFault) (refused : Option RunFault)
          → Refuses refused (if many then Err TooManyScenarios else answer_to seen i.scenarios i.seed) → Refuses refused (if many then Err TooManyScenarios else made_by make seen i.scenarios i.seed)
      by true seen (Some fault) is = let same : TooManyScenarios ≡ fault = cc in ap Err same
      by true seen None is = absurd cc
      by false (Ok c) (Some fault) is = absurd cc
      by false (Ok c) None is = refl
      by false (Err f) (Some fault) is = let same : run_fault f ≡ fault = cc in ap Err same
      by false (Err f) None is = absurd cc
