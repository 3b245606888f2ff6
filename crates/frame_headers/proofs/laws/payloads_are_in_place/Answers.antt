use Rattle.frame_headers.proofs.PayloadPlaces.{payloads_are_in_place}
use Rattle.frame_headers.proofs.laws.payloads_are_in_place.Goals as goal

pub returns : goal.returns
returns c = payloads_are_in_place
