-- From the text of a capture and the texts of scenarios to what a rehearsal takes, to what each scenario answers, and to the summary of the run.
use Rattle.std.specs.Prelude.{ℕ, nat_lt, if◌then◌else◌, List, [], ◌∷◌, ◌++◌, length, IfErr, Result, Ok, Err}
use Rattle.toxicap.specs.Words.{CaptureFault, capture_limit, reading, SeenCapture, and_then, scenario, Refusal, KnownHost, Proxy, RunFault, BadHost}
use Rattle.toxicap.specs.Words.{BadScenario, CaptureTooLong, ReadFailed, ShelfFailed, TooManyScenarios, WriteFailed, Output, is_dump, dump_reading, run_fault}
use Rattle.toxicap.specs.Words.{run_summary, RunSummary}
use Rattle.toxicap.specs.Rehearsal.{answer, scenario_limit, seen_file}
use Rattle.toxicap.specs.declared.reading.Inputs.{Inputs}

-- the bytes of the capture that a text holds
abbrev pub capture_bytes_of : List ℕ → Result (List ℕ) RunFault
capture_bytes_of text = if is_dump text then dump_reading text else Ok text

-- a scenario, or its refusal with the scenario's number
abbrev pub numbered : ℕ → Result (List Proxy) Refusal → Result (List Proxy) RunFault
numbered number (Ok proxies) = Ok proxies
numbered number (Err refusal) = Err (BadScenario number refusal)

-- the scenarios of some texts, after those read earlier, or the first refusal
unfoldable pub scenarios_from : List KnownHost → List (List Proxy) → List (List ℕ) → Result (List (List Proxy)) RunFault
scenarios_from hosts earlier [] = Ok earlier
scenarios_from hosts earlier (text ∷ texts) =
    and_then (numbered (length earlier) (scenario hosts text)) (λ proxies. scenarios_from hosts (earlier ++ proxies ∷ []) texts)

-- What a rehearsal takes, or the first refusal: the capture's text is too long, its dump is broken, or a scenario is refused.
unfoldable pub inputs_from : List KnownHost → List (List ℕ) → ℕ → List ℕ → Result Inputs RunFault
inputs_from hosts texts seed text =
    if nat_lt capture_limit (length text) then Err CaptureTooLong else and_then (capture_bytes_of text) (λ bytes.
    and_then (scenarios_from hosts [] texts) (λ scenarios. Ok (record { capture = bytes; scenarios = scenarios; seed = seed })))

abbrev pub answer_of : Inputs → Result (List Output) RunFault
answer_of i = answer i.capture i.scenarios i.seed

-- what `make` makes of a capture that was seen, scenarios and a seed; it is refused as `answer` is
abbrev pub made_by : {A : Type 0} → (SeenCapture → List (List Proxy) → ℕ → A) → Result SeenCapture CaptureFault → List (List Proxy) → ℕ → Result A RunFault
made_by make (Ok c) scenarios seed = Ok (make c scenarios seed)
made_by make (Err f) scenarios seed = Err (run_fault f)

abbrev pub made_of : {A : Type 0} → (SeenCapture → List (List Proxy) → ℕ → A) → Inputs → Result A RunFault
made_of make i = if nat_lt scenario_limit (length i.scenarios) then Err TooManyScenarios else made_by make (seen_file (reading i.capture)) i.scenarios i.seed

-- what a text calls for, or the first refusal: of what is read, or of the rehearsal
abbrev pub answer_of_texts : List KnownHost → List (List ℕ) → ℕ → List ℕ → Result (List Output) RunFault
answer_of_texts hosts texts seed text = and_then (inputs_from hosts texts seed text) answer_of

-- a fault of the texts: no call of a reader, a writer or a shelf has failed, and no host is refused
abbrev pub IsOfText : RunFault → Type 0
IsOfText ReadFailed = ⊥
IsOfText WriteFailed = ⊥
IsOfText (ShelfFailed after) = ⊥
IsOfText (BadHost at) = ⊥
IsOfText _ = Unit {0}

-- what a text calls for is refused by no other fault
abbrev pub RefusedByTexts : Type 0
RefusedByTexts = (hosts : List KnownHost) (texts : List (List ℕ)) (seed : ℕ) (text : List ℕ) → IfErr (answer_of_texts hosts texts seed text) IsOfText

-- ---- the summary that a run calls for; it has no limit of scenarios: a run with too many does not end well

-- by what is seen of a capture, or its fault
abbrev pub summary_in : Result SeenCapture CaptureFault → List (List Proxy) → Result RunSummary RunFault
summary_in (Ok c) scenarios = Ok (run_summary c scenarios)
summary_in (Err f) scenarios = Err (run_fault f)

abbrev pub summary_of_bytes : List ℕ → List (List Proxy) → Result RunSummary RunFault
summary_of_bytes bytes scenarios = summary_in (seen_file (reading bytes)) scenarios

-- by the scenarios' texts with these hosts, and the capture's text
abbrev pub summary_of_texts : List KnownHost → List (List ℕ) → List ℕ → Result RunSummary RunFault
summary_of_texts hosts texts text =
    and_then (capture_bytes_of text) (λ bytes. and_then (scenarios_from hosts [] texts) (summary_of_bytes bytes))
