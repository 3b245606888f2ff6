-- The options of the program, as clap reads them.
use Rattle.std.specs.Prelude.{ℕ, ◌-◌, ◌^◌, [], ◌∷◌, codes, true, Some}
use Rattle.clap.specs.Words.{App, Rule, Text, new_app, new_rule, with_rule}
use Rattle.clap.specs.declared.builder.ArgAction.TheVariants.{Set, Append}
use Rattle.clap.specs.declared.builder.ValueParser.TheVariants.{Unsigned}

abbrev pub most_workers : ℕ
most_workers = 16

abbrev pub most_cut : ℕ
most_cut = 2 ^ 20

abbrev pub default_workers : ℕ
default_workers = 1

abbrev pub default_cut : ℕ
default_cut = 4096

-- an option with a value, which may stand once
abbrev pub option_rule : Text → Rule
option_rule name = record (new_rule name) { long = Some name; value_names = 1; action = Some Set }

abbrev pub repeated_rule : Text → Rule
repeated_rule name = record (option_rule name) { action = Some Append }

abbrev pub number_rule : Text → ℕ → ℕ → Text → Rule
number_rule name least most default =
    record (option_rule name) { parser = Some (Unsigned least most); defaults = default ∷ [] }

-- the arguments stand after the program's name
abbrev pub bare_app : App
bare_app =
    let bare = new_app (codes "toxicap") in
    record bare { top = record bare.top { no_binary_name = true; has_version = true; has_long_version = true } }

abbrev pub path_options : App
path_options =
    with_rule (with_rule (with_rule bare_app
    (option_rule (codes "capture")))
    (repeated_rule (codes "scenario")))
    (repeated_rule (codes "host"))

abbrev pub program_options : App
program_options =
    with_rule (with_rule (with_rule (with_rule path_options
    (number_rule (codes "seed") 0 (2 ^ 64 - 1) (codes "0")))
    (number_rule (codes "workers") 1 most_workers (codes "1")))
    (number_rule (codes "cut") 1 most_cut (codes "4096")))
    (option_rule (codes "out"))
