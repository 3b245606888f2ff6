use Rattle.std.proofs.Common.{◌≡◌, map, refl, ap}
use Rattle.conn_table.specs.Tables.{finished}
use Rattle.conn_table.specs.Entries.{kept_by, all_of}
use Rattle.conn_table.specs.Growing.{grown_of}
use Rattle.conn_table.proofs.table.finish.Goals as goal

pub returns : goal.returns
unfolding finished
returns c =
    let growth = c.in_ok-growth.growth in
    let done = c.in_ok-growth.ensures.shown in
    let conns : growth.conns.items ≡ (grown_of (map kept_by (all_of c.partial.inside.ranges.items))).conns = ap (λ g. g.conns) done in
    let unopened : growth.unopened ≡ (grown_of (map kept_by (all_of c.partial.inside.ranges.items))).unopened = ap (λ g. g.unopened) done in
    rw (← c.partial.view_is, conns, unopened) refl
