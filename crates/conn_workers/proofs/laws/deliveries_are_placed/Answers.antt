use Rattle.conn_workers.proofs.MadeOfRecorded.{rows_are_whole, deliveries_are_placed}
use Rattle.conn_workers.proofs.laws.deliveries_are_placed.Goals as goal

pub returns : goal.returns
returns c = record { whole = rows_are_whole; placed = deliveries_are_placed }
