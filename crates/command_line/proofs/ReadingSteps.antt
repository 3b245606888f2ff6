-- From what clap answers to what a command line asks for.
use Rattle.std.proofs.Common.{◌≡◌, refl, true, List, [], Err, inl, inr}
use Rattle.clap.specs.Words.{App, HasKind, HasMatchesOf, Text, fault_of, found_of, is_simple, is_simple_and_free, kind_of, rows_of}
use Rattle.clap.specs.declared.parser.ArgMatches.{ArgMatches}
use Rattle.clap.specs.declared.error.Error.{Error}
use Rattle.clap.proofs.OnLiterals.{clap_on_literals}
use Rattle.command_line.specs.OptionTable.{program_options}
use Rattle.command_line.specs.Asking.{ReadsAs, StopsFor, faults_in, matches_in}
use Rattle.command_line.specs.declared.error.Stop.{Stop}
use Rattle.command_line.specs.declared.error.Stop.TheVariants.{Shown, Usage, Memory}

options_are_simple : is_simple program_options ≡ true
unfolding clap_on_literals
options_are_simple = refl

options_are_free : is_simple_and_free program_options ≡ true
unfolding clap_on_literals
options_are_free = refl

-- the matches of a parse, and its faults, are those of the definition
pub matched : (a : App) (arguments : List Text) (m : ArgMatches) → a ≡ program_options → HasMatchesOf a arguments m → rows_of (found_of m) ≡ matches_in arguments
unfolding matches_in
matched a arguments m is has = ((rw is at has) options_are_simple).0

pub faultless : (a : App) (arguments : List Text) → a ≡ program_options → (is_simple_and_free a ≡ true → fault_of a arguments ≡ []) → faults_in arguments ≡ []
unfolding faults_in
faultless a arguments is has = (rw is at has) options_are_free

pub faulty : (a : App) (arguments : List Text) (e : Error) → a ≡ program_options → (is_simple_and_free a ≡ true → HasKind (fault_of a arguments) e) → HasKind (faults_in arguments) e
unfolding faults_in
faulty a arguments e is has = (rw is at has) options_are_free

-- a fault of clap's is shown, told, or out of memory
pub stopped : (arguments : List Text) (e : Error) (stop : Stop) → HasKind (faults_in arguments) e → StopsFor (kind_of e) stop → ReadsAs arguments (Err stop)
stopped arguments e (Shown text) (inl memory) is =
    absurd (elim (rw memory at is) [
      | inl help ↦ cc
      | inr version ↦ cc
    ])
stopped arguments e (Shown text) (inr among) is = (kind_of e, among, is)
stopped arguments e (Usage text) (inl memory) is = absurd (is.0 memory)
stopped arguments e (Usage text) (inr among) is = (kind_of e, among, is.1)
stopped arguments e Memory has is = tt
