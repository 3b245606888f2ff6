use Rattle.toxicap.proofs.OutputsIsolated.{outputs_kept}
use Rattle.toxicap.proofs.laws.outputs_are_isolated.Goals as goal

pub returns : goal.returns
returns c = outputs_kept c.sorted_never_falls.ensures c.readings_split.ensures c.written_is_read.ensures c.headers_are_sound.ensures c.segments_fit.ensures
