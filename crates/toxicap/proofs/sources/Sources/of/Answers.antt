use Rattle.std.proofs.Common.{length, ap, ◌∙◌}
use Rattle.std.proofs.lemmas.List.FromFn.{length-map-range_with_len}
use Rattle.toxicap.specs.{head_of}
use Rattle.toxicap.proofs.OutputSteps.{outputs_are, stand_once}
use Rattle.toxicap.proofs.sources.Sources.of.Goals as goal

pub invariant_of-result-clause-each : goal.invariant_of-result-clause-each
invariant_of-result-clause-each c = ap length c.requires.heads ∙ length-map-range_with_len (head_of c.args.capture) 0 (length c.args.scenarios.now)

pub invariant_of-result-clause-once : goal.invariant_of-result-clause-once
invariant_of-result-clause-once c =
    stand_once c.args.capture c.args.seed c.args.recordings.now c.requires.recordings c.rows_are_contributed.ensures c.keys_stand_once.ensures

pub returns : goal.returns
returns c =
    outputs_are c.args.capture c.args.scenarios.now c.args.seed _ c.args.heads.now c.args.recordings.now c.unit.ensures c.requires.heads c.requires.recordings
    c.rows_are_contributed.ensures c.lines_are_contributed.ensures
