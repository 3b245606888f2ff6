use Rattle.toxicap.proofs.OutputsRead.{outputs_are_read}
use Rattle.toxicap.proofs.laws.outputs_are_read.Goals as goal

pub returns : goal.returns
returns c = outputs_are_read c.sorted_never_falls.ensures c.readings_split.ensures c.written_is_read.ensures c.headers_are_sound.ensures c.segments_fit.ensures
