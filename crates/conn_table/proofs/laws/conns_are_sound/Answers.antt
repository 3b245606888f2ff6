use Rattle.conn_table.proofs.TableSoundness.{conns_are_sound}
use Rattle.conn_table.proofs.laws.conns_are_sound.Goals as goal

pub returns : goal.returns
returns c = conns_are_sound c.payloads_are_in_place.ensures
