use Rattle.std.proofs.Common.{◌≡◌, Some, sym, ap, ◌∙◌}
use Rattle.conn_table.specs.IndexedSegments.{indexed_segments}
use Rattle.conn_workers.specs.Recordings.{contribution_of, delivery}
use Rattle.conn_workers.proofs.MadeOfRecorded.{own_number, deliveries_are_placed, same_connection, contribution_is}
use Rattle.conn_workers.proofs.laws.contributions_are_isolated.Goals as goal

pub returns : goal.returns
returns c ticks seed number s first second x y a b here there members met =
    let number_here : x.number ≡ number = own_number (indexed_segments 0 first.seen.packets) number x here.connection in
    let number_there : y.number ≡ number = own_number (indexed_segments 0 second.seen.packets) number y there.connection in
    let same : contribution_of ticks seed (s, a) x ≡ contribution_of ticks seed (s, b) y = contribution_is ticks seed s x y a b (same_connection x y (number_here ∙ sym number_there) members) met in
    (same, deliveries_are_placed ticks seed number s first x a here ∙ ap (λ p. Some (delivery s number p)) same ∙ sym (deliveries_are_placed ticks seed number s second y b there))
