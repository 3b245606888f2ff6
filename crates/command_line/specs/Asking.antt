-- What the arguments of a command line ask for. How arguments are read as options with values is clap's own definition.
use Rattle.std.specs.Prelude.{◌≡◌, ◌≢◌, ℕ, ◌≤◌, ◌^◌, ◌⊎◌, ◌&&◌, nat_le, nat_lt, List, [], length, map, Option, Some, None, option_map, option_and_then, unwrap_or, codes, if◌then◌else◌, Result, Ok, Err}
use Rattle.std.specs.List.{list_all}
use Rattle.std.specs.Char.{digit_value}
use Rattle.std.specs.Str.Parse.{digits_value, without_leading_plus}
use Rattle.clap.specs.Words.{Kinds, Row, Text, IsAmong, all_of, fault_of, first_of, matches_of, one_of}
use Rattle.clap.specs.declared.error.ErrorKind.{ErrorKind}
use Rattle.clap.specs.declared.error.ErrorKind.TheVariants.{DisplayHelp, DisplayVersion, OutOfMemory}
use Rattle.command_line.specs.OptionTable.{most_workers, most_cut, default_workers, default_cut, program_options}
use Rattle.command_line.specs.declared.asked.Asked.{Asked}
use Rattle.command_line.specs.declared.error.Stop.{Stop}
use Rattle.command_line.specs.declared.error.Stop.TheVariants.{Shown, Usage, Memory}

abbrev pub IsPlanInRange : Asked → Type 0
IsPlanInRange asked = (1 ≤ asked.workers) × (asked.workers ≤ most_workers) × (1 ≤ asked.cut) × (asked.cut ≤ most_cut)

-- the number that a text is in decimal, if it is one below a bound
abbrev pub number_below : ℕ → Text → Option ℕ
number_below bound text =
    let digits = without_leading_plus text in
    if nat_lt 0 (length digits) && list_all (λ d. nat_lt (digit_value d) 10) digits
    && nat_lt (digits_value 10 digits) bound
    then Some (digits_value 10 digits) else None

-- a number from 1 to `most`, or else the default
abbrev pub number_to : ℕ → ℕ → Option ℕ → ℕ
number_to most default None = default
number_to most default (Some n) = if nat_le 1 n && nat_le n most then n else default

abbrev pub number_of : ℕ → Text → List Row → Option ℕ
number_of bound id rows = option_and_then (number_below bound) (one_of id rows)

abbrev pub option_values : Text → List Row → List Text
option_values id rows = unwrap_or (all_of id rows) []

pub record Asks (rows : List Row) (asked : Asked) : Type 0 where
  pub capture : option_map (λ path. path.now) asked.capture ≡ first_of (codes "capture") rows
  pub scenarios : map (λ path. path.now) asked.scenarios.items ≡ option_values (codes "scenario") rows
  pub hosts : map (λ host. host.now) asked.hosts.items ≡ option_values (codes "host") rows
  pub seed : asked.seed ≡ unwrap_or (number_of (2 ^ 64) (codes "seed") rows) 0
  pub workers : asked.workers ≡ number_to most_workers default_workers (number_of (2 ^ 32) (codes "workers") rows)
  pub cut : asked.cut ≡ number_to most_cut default_cut (number_of (2 ^ 32) (codes "cut") rows)
  pub out : option_map (λ path. path.now) asked.out ≡ first_of (codes "out") rows

-- a kind of fault that asks for the help or the version
abbrev pub AsksText : ErrorKind → Type 0
AsksText kind = (kind ≡ DisplayHelp) ⊎ (kind ≡ DisplayVersion)

unfoldable pub faults_in : List Text → Kinds
faults_in arguments = fault_of program_options arguments

unfoldable pub matches_in : List Text → List Row
matches_in arguments = matches_of program_options arguments

-- Arguments without a fault ask for what their matches do; else clap's definition has a fault of the kind. Memory may always run out.
abbrev pub ReadsAs : List Text → Result Asked Stop → Type 0
ReadsAs arguments (Ok asked) = IsPlanInRange asked × (faults_in arguments ≡ []) × Asks (matches_in arguments) asked
ReadsAs arguments (Err (Shown text)) = (kind : ErrorKind) × IsAmong kind (faults_in arguments) × AsksText kind
ReadsAs arguments (Err (Usage text)) = (kind : ErrorKind) × IsAmong kind (faults_in arguments) × (AsksText kind → ⊥)
ReadsAs arguments (Err Memory) = Unit {0}

abbrev pub StopsFor : ErrorKind → Stop → Type 0
StopsFor kind (Shown text) = AsksText kind
StopsFor kind (Usage text) = (kind ≢ OutOfMemory) × (AsksText kind → ⊥)
StopsFor kind Memory = Unit {0}
