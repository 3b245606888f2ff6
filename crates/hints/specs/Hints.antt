-- Hints: lines that begin with what they are about, and which refusals of a call have one.
use Rattle.std.specs.Prelude.{◌≡◌, ◌<◌, ◌==◌, ℕ, Bool, true, false, List, [], ◌++◌, codes, length}
use Rattle.std.specs.Fmt.{decimal}
use Rattle.std.specs.List.{before_first, list_any}
use Rattle.run_files.specs.declared.error.RunFault.{RunFault}
use Rattle.run_files.specs.declared.error.RunFault.TheVariants.{BadScenario, BadHost, TooManyScenarios, CaptureTooLong, Memory, ShelfFailed, ReadFailed, WriteFailed}
use Rattle.hints.specs.declared.lines.Speaker.{Speaker}
use Rattle.hints.specs.declared.lines.Speaker.TheVariants.{Program, Call}

abbrev pub is_line_feed : ℕ → Bool
is_line_feed byte = byte == 10

abbrev pub first_line : List ℕ → List ℕ
first_line text = before_first is_line_feed text

-- a hint in one line, after what it is about and its place there
abbrev pub told : List ℕ → List ℕ → List ℕ → List ℕ
told subject place hint = first_line subject ++ (first_line place ++ (codes " " ++ first_line hint))

-- a text that is not empty, has no line feed, and begins with the first line of a subject
pub record IsAbout (subject line : List ℕ) : Type 0 where
  pub some : 0 < length line
  pub one_line : list_any is_line_feed line ≡ false
  pub begins : (rest : List ℕ) × (line ≡ first_line subject ++ rest)

abbrev pub count_words : Speaker → List ℕ
count_words Program = codes "scenarios were named, and a run takes 256: run it more than once"
count_words Call = codes "scenarios were given, and a call takes 256: call more than once"

abbrev pub host_subject : Speaker → ℕ → List ℕ
host_subject Program at = codes "--host"
host_subject Call at = codes "host " ++ decimal at

-- whether what helps can be in the arguments of a call: they have no part in lack of memory and faults of files
abbrev pub is_of_arguments : RunFault → Bool
is_of_arguments Memory = false
is_of_arguments (ShelfFailed after) = false
is_of_arguments ReadFailed = false
is_of_arguments WriteFailed = false
is_of_arguments _ = true

-- what a hint is about in a call with this number of scenarios; a text that is too long may be the capture or a scenario
abbrev pub subject_in_call : RunFault → ℕ → List ℕ
subject_in_call (BadScenario number refusal) count = codes "scenario " ++ decimal number
subject_in_call (BadHost at) count = codes "host " ++ decimal at
subject_in_call TooManyScenarios count = decimal count
subject_in_call CaptureTooLong count = []
subject_in_call _ count = codes "the capture"
