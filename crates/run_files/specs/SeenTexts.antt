-- What is kept of a capture's text if only reports are expected.
use Rattle.std.specs.Prelude.{◌≡◌, ℕ, ◌≤◌, true, false, List, length, IfOk, Result, Ok, Err}
use Rattle.run_files.specs.Words.{AgreesUnlessMemory, heads_in, capture_refusal, capture_limit, reading}
use Rattle.run_files.specs.declared.error.RunFault.{RunFault}
use Rattle.run_files.specs.declared.head_loading.SeenText.{SeenText}
use Rattle.run_files.specs.declared.head_loading.SeenText.TheVariants.{Dump, Heads}
use Rattle.run_files.specs.Dumps.{is_dump}

-- what is kept of a text: all of a dump, and else the heads in it, or the capture's first fault
abbrev pub IsSeenOf : SeenText → List ℕ → Type 0
IsSeenOf (Dump whole) text = (is_dump text ≡ true) × (whole ≡ text)
IsSeenOf (Heads heads) text = (is_dump text ≡ false) × AgreesUnlessMemory capture_refusal (λ h. h) heads (heads_in (reading text))

-- a text was loaded, and this was kept of it; or none was, and the result is the same fault
abbrev pub SeesAs : Result SeenText RunFault → Result (List ℕ) RunFault → Type 0
SeesAs (Ok seen) (Ok text) = IsSeenOf seen text
SeesAs (Err fault) (Err cause) = fault ≡ cause
SeesAs _ _ = ⊥

-- this was kept of a text within the limit that was loaded as `LoadedSo` says
abbrev pub Sees : Result SeenText RunFault → (Result (List ℕ) RunFault → Type 0) → Type 0
Sees result LoadedSo =
    (loaded : Result (List ℕ) RunFault) × SeesAs result loaded × IfOk loaded (λ text. length text ≤ capture_limit) × LoadedSo loaded
