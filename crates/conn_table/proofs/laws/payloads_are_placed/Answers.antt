use Rattle.conn_table.proofs.TableSoundness.{payloads_are_placed}
use Rattle.conn_table.proofs.laws.payloads_are_placed.Goals as goal

pub returns : goal.returns
returns c = payloads_are_placed c.payloads_are_in_place.ensures
