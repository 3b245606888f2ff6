-- What is written of the outputs of a rehearsal: their reports are printed, or two files for each are stored, on a shelf or as drafts.
use Rattle.std.specs.Prelude.{ℕ, List, ◌≡◌, ⊤, ◌++◌, Option, Some, None, ◌+◌, ◌-◌, ◌<◌, [], ◌∷◌, length, take, replicate, codes, Result, Ok, Err}
use Rattle.run_files.specs.Words.{flat_map, decimal}
use Rattle.run_files.specs.declared.outputs.Output.{Output}
use Rattle.run_files.specs.declared.error.StoreFault.{StoreFault}
use Rattle.run_files.specs.declared.error.StoreFault.TheVariants.{ShelfFailed, Memory}

-- ---- a file as it is put

pub record StoredFile : Type 0 where
  pub name : List ℕ
  pub bytes : List ℕ

abbrev pub stored_file : List ℕ → List ℕ → StoredFile
stored_file name bytes = record { name = name; bytes = bytes }

-- ---- shelves

-- A shelf has taken some files, and no other, by the files that it had and has. Nothing is said of a shelf that does not tell them.
abbrev pub Takes : Option (List StoredFile) → Option (List StoredFile) → List StoredFile → Type 0
Takes None new files = ⊤
Takes (Some had) None files = ⊥
Takes (Some had) (Some has) files = has ≡ had ++ files

-- the files, the oldest first, and the number of failed calls
pub record MemoryShelfView : Type 0 where
  pub files : List StoredFile
  pub failed : ℕ

-- ---- drafts

-- a draft of its capture, and one of its report, where `Holds` tells what a draft holds
abbrev pub IsDraftOf : {Draft : Type 0} → (Draft → List ℕ → Type 0) → Output → Draft × Draft → Type 0
IsDraftOf Holds output drafted = Holds drafted.0 output.capture × Holds drafted.1 output.report

-- ---- printed

abbrev pub reports_of : List Output → List ℕ
reports_of outputs = flat_map (λ o. o.report) outputs

-- ---- stored

-- a number in decimal, after as many zeros as make it four digits
abbrev pub four_digits : ℕ → List ℕ
four_digits n = replicate (4 - length (decimal n)) 48 ++ decimal n

abbrev pub capture_file : ℕ → Output → StoredFile
capture_file n output = stored_file (four_digits n ++ codes ".pcap") output.capture

abbrev pub report_file : ℕ → Output → StoredFile
report_file n output = stored_file (four_digits n ++ codes ".txt") output.report

abbrev pub files_from : ℕ → List Output → List StoredFile
files_from n [] = []
files_from n (output ∷ outputs) = capture_file n output ∷ report_file n output ∷ files_from (n + 1) outputs

abbrev pub stored_before : StoreFault → ℕ
stored_before (ShelfFailed after) = after
stored_before (Memory after) = after

-- How files were stored after `before` others, where `Stored` means that some were: all of them; or the first of them, but not all.
abbrev pub Stores : ℕ → List StoredFile → (List StoredFile → Type 0) → Result (Unit {0}) StoreFault → Type 0
Stores before files Stored (Ok _) = Stored files
Stores before files Stored (Err fault) = (stored : ℕ) × (stored_before fault ≡ before + stored) × (stored < length files) × Stored (take stored files)

-- how one file was put after `before` others: it was; or it was not, and all is as it was
abbrev pub PutsAfter : ℕ → Type 0 → Type 0 → Result (Unit {0}) StoreFault → Type 0
PutsAfter before Put AsBefore (Ok _) = Put
PutsAfter before Put AsBefore (Err fault) = (stored_before fault ≡ before) × AsBefore
