use Rattle.segment_writer.proofs.KeysApart.{keys_stand_once}
use Rattle.segment_writer.proofs.laws.keys_stand_once.Goals as goal

pub returns : goal.returns
returns c = keys_stand_once
