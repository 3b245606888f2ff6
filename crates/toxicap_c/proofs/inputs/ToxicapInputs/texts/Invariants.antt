use Rattle.std.proofs.Common.{◌≡◌, ◌++◌, drop, length, map}
use Rattle.toxicap_c.specs.Calls.{texts_in}
use Rattle.toxicap_c.proofs.inputs.ToxicapInputs.texts.Given as goal

-- the texts so far, and those of the bytes that are left
abbrev pub invariant-loop-len : goal.invariant-loop-len
invariant-loop-len l = record {
  texts : map (λ t. t.now) l.texts.items ++ texts_in l.rest (drop l.len-index l.self.scenario_lens.now) ≡ texts_in l.self.scenarios.now l.self.scenario_lens.now;
  count : length l.texts.items ≡ l.len-index;
}
