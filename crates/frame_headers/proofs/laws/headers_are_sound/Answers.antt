use Rattle.frame_headers.proofs.ReadBack.{headers_are_sound}
use Rattle.frame_headers.proofs.laws.headers_are_sound.Goals as goal

pub returns : goal.returns
returns c = headers_are_sound
