use Rattle.std.proofs.Common.{codes, ap, [], unwrap_or, ◌∙◌}
use Rattle.std.specs.Str.Parse.{ParsesUnsigned, ExplainsUnsignedError, HasUnsignedDigitsIfOk}
use Rattle.clap.specs.Words.{found_of}
use Rattle.clap.proofs.WalkLemmas.{first_value-rows, raw_values-rows}
use Rattle.command_line.specs.Asking.{number_to}
use Rattle.command_line.specs.OptionTable.{most_workers, most_cut, default_workers, default_cut}
use Rattle.command_line.proofs.NumberSteps.{number_got}
use Rattle.command_line.proofs.asked.asked_in.Goals as goal

pub returns-clause-asks : goal.returns-clause-asks
returns-clause-asks c =
    let m = c.args.matches.now in
    let found = found_of m in
    record {
      capture = c.get_str.ensures ∙ first_value-rows found (codes "capture");
      scenarios = c.in_ok-copy_of.ensures ∙ ap (λ o. unwrap_or o []) (c.get_strs.ensures ∙ raw_values-rows found (codes "scenario"));
      hosts = c.in_ok-copy_of-2.ensures ∙ ap (λ o. unwrap_or o []) (c.get_strs-2.ensures ∙ raw_values-rows found (codes "host"));
      seed = c.unwrap_or.ensures ∙ ap (λ o. unwrap_or o 0) (number_got _ (λ t x. ParsesUnsigned 64 10 t x × ExplainsUnsignedError 10 t x × HasUnsignedDigitsIfOk t x) 64 m (codes "seed") _ c.get_one.ensures.none c.get_one.ensures.value (λ u x h. h.0));
      workers = c.from_one.ensures.is ∙ ap (number_to most_workers default_workers) (number_got _ (λ t x. ParsesUnsigned 32 10 t x × ExplainsUnsignedError 10 t x × HasUnsignedDigitsIfOk t x) 32 m (codes "workers") _ c.get_one-2.ensures.none c.get_one-2.ensures.value (λ u x h. h.0));
      cut = c.from_one-2.ensures.is ∙ ap (number_to most_cut default_cut) (number_got _ (λ t x. ParsesUnsigned 32 10 t x × ExplainsUnsignedError 10 t x × HasUnsignedDigitsIfOk t x) 32 m (codes "cut") _ c.get_one-3.ensures.none c.get_one-3.ensures.value (λ u x h. h.0));
      out = c.get_str-2.ensures ∙ first_value-rows found (codes "out");
    }
