use Rattle.std.proofs.Common.{ℕ, List, [], length, subst}
use Rattle.scenarios.specs.Refusals.{and_then}
use Rattle.effects.specs.EffectCounts.{effects_in}
use Rattle.toxicap.specs.Answering.{made_of}
use Rattle.toxicap_c.specs.Buffers.{Puts, buffers, effect_sizes, put_of_counts}
use Rattle.toxicap_c.specs.Calls.{inputs_asked}
use Rattle.toxicap_c.proofs.ToldEnds.{ends_put, ends_told}
use Rattle.toxicap_c.proofs.calls.toxicap_effects.Goals as goal

pub returns-in-Ok : goal.returns-in-Ok
returns-in-Ok c =
    let P : List ℕ → Type 0 = λ found. Puts effect_sizes (put_of_counts found) c.put_counts.result (buffers c.args.counts.now c.args.text.now []) (buffers c.put_counts.new.counts c.args.text.now []) c.put_counts.new.sizes in
    ends_put effect_sizes put_of_counts (length c.args.inputs.now.scenario_lens.now) (and_then (inputs_asked c.args.inputs.now) (made_of effects_in)) c.in-Ok.found _ _ _ c.put_counts.result c.status_of.result c.code_of.result
    c.in-Ok.ensures (subst P c.as_slice.ensures (c.put_counts.ensures c.args.text.now)) c.status_of.ensures c.code_of.ensures

pub returns-in-Err : goal.returns-in-Err
returns-in-Err c =
    rw c.effect_sizes.ensures
    (ends_told effect_sizes put_of_counts (length c.args.inputs.now.scenario_lens.now) (and_then (inputs_asked c.args.inputs.now) (made_of effects_in)) c.args.counts.now [] c.args.text.now c.tell.new.buffer c.in-Err.fault
    c.in-Err.ensures c.tell.result c.tell.new.len c.code_of-in-Err.result c.tell.ensures c.code_of-in-Err.ensures)
