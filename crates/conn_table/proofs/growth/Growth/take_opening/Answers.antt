use Rattle.std.proofs.Common.{Some, ap, sym, ◌∙◌}
use Rattle.indexmap.specs.IndexMap.{get}
use Rattle.conn_table.specs.IndexedSegments.{same_pair}
use Rattle.conn_table.specs.Entries.{kept_by}
use Rattle.conn_table.specs.Growing.{shown_by}
use Rattle.conn_table.specs.KeptSegments.{is_again}
use Rattle.conn_table.proofs.Growths.{grown-again, put_back}
use Rattle.conn_table.proofs.growth.Growth.take_opening.Goals as goal

pub returns-in_ok-take_member-in-Some-clause-shown : goal.returns-in_ok-take_member-in-Some-clause-shown
returns-in_ok-take_member-in-Some-clause-shown c =
    let old = c.args.self.now.last_connections.map in
    let last = c.in-Some.last in
    let is = c.in_ok-take_member-in-Some.ensures in
    let found = sym (rw c.pair-pair.ensures at c.in_ok-last.ensures.last) ∙ c.in-Some.is in
    let once = rw c.pair-pair.ensures at c.in_ok-last.ensures.map in
    let again = rw c.pair-pair.ensures at c.in_ok-put-in-Some.ensures.map in
    let repeated = ap (is_again (Some last.opening)) (sym c.opening-opening.ensures) ∙ sym c.is_same.ensures ∙ c.if-is_same.true in
    grown-again (shown_by c.args.self.now) (shown_by c.take_member.new.self) (kept_by c.args.entry.now) last found c.requires.opens repeated is.conns
    (λ q. ap (λ last. get same_pair last.map q) is.last_connections
    ∙ put_back (get same_pair old) (get same_pair c.put.new.self.map) (get same_pair c.put-in-Some.new.self.map) (kept_by c.args.entry.now).pair _ last found once.0 again.0 q)
    is.unopened
