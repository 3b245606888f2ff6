use Rattle.std.proofs.Common.{List, length, subst}
use Rattle.run_files.specs.declared.outputs.Output.{Output}
use Rattle.scenarios.specs.Refusals.{and_then}
use Rattle.toxicap.specs.Answering.{answer_of}
use Rattle.toxicap_c.specs.Buffers.{Puts, buffers, output_sizes, put_of}
use Rattle.toxicap_c.specs.Calls.{inputs_asked}
use Rattle.toxicap_c.proofs.ToldEnds.{ends_put, ends_told}
use Rattle.toxicap_c.proofs.calls.toxicap_rehearse.Goals as goal

pub returns-in-Ok : goal.returns-in-Ok
returns-in-Ok c =
    let P : List Output → Type 0 = λ outputs. Puts output_sizes (put_of outputs) c.put_outputs-is_put.result (buffers c.args.captures.now c.args.reports.now c.args.lens.now)
    (buffers c.put_outputs-is_put.new.captures c.put_outputs-is_put.new.reports c.put_outputs-is_put.new.lens) c.put_outputs-is_put.new.sizes in
    ends_put output_sizes put_of (length c.args.inputs.now.scenario_lens.now) (and_then (inputs_asked c.args.inputs.now) answer_of) c.in-Ok.outputs _ _ _ c.put_outputs-is_put.result c.status_of.result c.code_of.result
    c.in-Ok.ensures.answer (subst P c.as_slice.ensures c.put_outputs-is_put.ensures) c.status_of.ensures c.code_of.ensures

pub returns-in-Err : goal.returns-in-Err
returns-in-Err c =
    rw c.no_sizes.ensures
    (ends_told output_sizes put_of (length c.args.inputs.now.scenario_lens.now) (and_then (inputs_asked c.args.inputs.now) answer_of) c.args.captures.now c.args.lens.now c.args.reports.now c.tell.new.buffer c.in-Err.fault
    c.in-Err.ensures.answer c.tell.result c.tell.new.len c.code_of-in-Err.result c.tell.ensures c.code_of-in-Err.ensures)
