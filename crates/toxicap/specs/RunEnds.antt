-- How a run ends, step by step; what it writes and stores; its exit status, and the line that it prints on standard error.
use Rattle.std.specs.Prelude.{◌≡◌, ℕ, ◌+◌, ◌<◌, ◌⊎◌, List, ◌++◌, length, take, codes, Option, Result, Ok, Err, ◌-◌, ◌≤◌, map}
use Rattle.toxicap.specs.Words.{Appends, AgreesUnlessMemory, RunFault, Memory, WriteFailed, ShelfFailed, fault_text, run_refusal, CountedView, History}
use Rattle.toxicap.specs.Words.{LeavesWhole, Output, CommitsIn, in_folder, StoredFile, files_from}

-- `given` is what is expected, or out of memory
abbrev pub UnlessMemory : {A : Type 0} → Result A RunFault → Result A RunFault → Type 0
UnlessMemory expected given = AgreesUnlessMemory run_refusal (λ x. x) given expected

-- If a step gave a value, the run goes on with it. If it gave a fault, that is the outcome, and all is as before (`AsBefore`).
abbrev pub GoesOn : {A B : Type 0} → Result A RunFault → Result B RunFault → Type 0 → (A → Type 0) → Type 0
GoesOn (Ok x) outcome AsBefore Next = Next x
GoesOn (Err fault) outcome AsBefore Next = (outcome ≡ Err fault) × AsBefore

-- one step of a run: what it may give, and how the run ends after it
abbrev pub Step : {A B : Type 0} → (Result A RunFault → Type 0) → Result B RunFault → Type 0 → (A → Type 0) → Type 0
Step {A} Gives outcome AsBefore Next = (given : Result A RunFault) × Gives given × GoesOn given outcome AsBefore Next

-- an outcome without its value
abbrev pub without_value : {A : Type 0} → Result A RunFault → Result (Unit {0}) RunFault
without_value (Ok _) = Ok tt
without_value (Err fault) = Err fault

-- ---- what is written

-- Statements about a writer over a run: it wrote nothing; it wrote this whole text, and no write failed; it wrote this text, and then a write failed.
pub record Written : Type 1 where
  pub NothingWritten : Type 0
  pub Wrote : List ℕ → Type 0
  pub FailedAfter : List ℕ → Type 0

-- a writer, seen by the bytes that it holds, before and after
abbrev pub written : {W : Type 0} → (W → Option (List ℕ)) → CountedView W → CountedView W → Written
written contents w x = record {
  NothingWritten = x ≡ w;
  Wrote = λ text. Appends (contents w.inner) (contents x.inner) text × (x.failed ≡ w.failed);
  FailedAfter = λ text. Appends (contents w.inner) (contents x.inner) text × (x.failed ≡ w.failed + 1);
}

-- On Ok the whole text was written. If a write failed, a first part of it was, not all.
abbrev pub WritesText : Result (Unit {0}) RunFault → List ℕ → Written → Type 0
WritesText (Ok _) text w = w.Wrote text
WritesText (Err WriteFailed) text w = (count : ℕ) × (count < length text) × w.FailedAfter (take count text)
WritesText (Err _) text w = ⊥

-- the whole text was written, or a first part, and then a write failed
abbrev pub WrittenSoFar : List ℕ → Written → Type 0
WrittenSoFar text w = w.Wrote text ⊎ ((count : ℕ) × (count < length text) × w.FailedAfter (take count text))

-- ---- how an outcome is told

abbrev pub status_of : {A : Type 0} → Result A RunFault → ℕ
status_of (Ok _) = 0
status_of (Err _) = 1

-- after a fault of the command line
abbrev pub usage_status : ℕ
usage_status = 2

-- what is printed if a word of the command line is no text
abbrev pub no_text : List ℕ
no_text = codes "error: a word of the command line is not text in UTF-8"

abbrev pub text_with_line_feed : List ℕ → List ℕ
text_with_line_feed text = text ++ codes "\n"

-- What is printed of an outcome: of a fault its line, or that of out of memory if there is none for its own, as far as the writes go.
abbrev pub Tells : {A : Type 0} → Result A RunFault → Written → Type 0
Tells (Ok _) w = w.NothingWritten
Tells (Err fault) w = WrittenSoFar (text_with_line_feed (fault_text fault)) w ⊎ WrittenSoFar (text_with_line_feed (fault_text Memory)) w

-- ---- outputs that are stored: the files of each scenario, in order

-- a disk's history before and after a run, or none if the disk tells none
pub record DiskHistories : Type 0 where
  pub before : Option History
  pub after : Option History

abbrev pub disk_histories : Option History → Option History → DiskHistories
disk_histories before after = record { before = before; after = after }

-- How storing files ends. On Ok all files were committed. On ShelfFailed the first `after` were; if memory runs out, none or some first ones,
-- never the last.
abbrev pub StoresFiles : Result (Unit {0}) RunFault → List StoredFile → (List StoredFile → Type 0) → Type 0
StoresFiles (Ok _) files Committed = Committed files
StoresFiles (Err (ShelfFailed after)) files Committed = (after < length files) × Committed (take after files)
StoresFiles (Err Memory) files Committed = (stored : ℕ) × (stored ≤ length files - 1) × Committed (take stored files)
StoresFiles (Err _) files Committed = ⊥

-- How storing in a folder ends. If a fault is expected, no file is published. Else files are committed in order until one fails or memory runs out.
-- At any moment each path held what it had held before, or one of these files whole; drafts are in no history.
abbrev pub StoresIn : List ℕ → Result (Unit {0}) RunFault → Result (List Output) RunFault → DiskHistories → Type 0
StoresIn folder outcome expected disk = Step (UnlessMemory expected) outcome (disk.after ≡ disk.before) (λ outputs.
    StoresFiles outcome (files_from 0 outputs) (CommitsIn folder disk.before disk.after)
    × LeavesWhole disk.before disk.after (map (in_folder folder) (files_from 0 outputs)))
