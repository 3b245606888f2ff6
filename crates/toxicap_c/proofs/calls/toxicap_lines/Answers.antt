use Rattle.std.proofs.Common.{length}
use Rattle.scenarios.specs.Refusals.{and_then}
use Rattle.laid_lines.specs.FlatLines.{flat_lines}
use Rattle.laid_lines.specs.RecordedLines.{flat_view}
use Rattle.toxicap.specs.Answering.{made_of}
use Rattle.toxicap_c.specs.Buffers.{lines_sizes, put_of_lines}
use Rattle.toxicap_c.specs.Calls.{inputs_asked}
use Rattle.toxicap_c.proofs.ToldEnds.{ends_put, ends_told}
use Rattle.toxicap_c.proofs.calls.toxicap_lines.Goals as goal

pub returns-in-Ok : goal.returns-in-Ok
returns-in-Ok c =
    ends_put lines_sizes put_of_lines (length c.args.inputs.now.scenario_lens.now) (and_then (inputs_asked c.args.inputs.now) (made_of flat_lines)) (flat_view c.in-Ok.lines) _ _ _ c.put_lines-is_put.result c.status_of.result c.code_of.result
    (c.in-Ok.ensures.answer _ c.read-read.ensures) c.put_lines-is_put.ensures c.status_of.ensures c.code_of.ensures

pub returns : goal.returns
returns c =
    rw c.no_lines_sizes.ensures
    (ends_told lines_sizes put_of_lines (length c.args.inputs.now.scenario_lens.now) (and_then (inputs_asked c.args.inputs.now) (made_of flat_lines)) c.args.chunks.now c.args.connections.now c.args.bytes.now c.tell.new.buffer c.in-Err.fault
    (c.in-Err.ensures.answer _ c.read-read.ensures) c.tell.result c.tell.new.len c.code_of-in-Err.result c.tell.ensures c.code_of-in-Err.ensures)
