use Rattle.frame_headers.proofs.FieldRanges.{segments_fit}
use Rattle.frame_headers.proofs.laws.segments_fit.Goals as goal

pub returns : goal.returns
returns c = segments_fit
