use Rattle.std.proofs.Common.{◌++◌, take, length-append, length-take, sym, subst, arith}
use Rattle.conn_table.specs.Growing.{HasGrown}
use Rattle.conn_table.proofs.Growths.{grown-next, ready, taken-next}
use Rattle.conn_table.proofs.growth.Growth.take_all.Goals as goal

pub take-requires : goal.take-requires
take-requires c =
    let (done, grown, few) = c.requires in
    let first = take c.loop-entry.entry-index c.args.range.now in
    ready (done ++ first) c.loop-entry.self (omega (arith, few, length-append done first, length-take c.loop-entry.entry-index c.args.range.now, c.loop-entry-test.true))
    (c.loop-entry.invariant done grown)

pub loop-entry-preserved : goal.loop-entry-preserved
loop-entry-preserved c = λ done grown.
    let first = take c.loop-entry.entry-index c.args.range.now in
    subst (λ es. HasGrown es c.take.new.self) (sym (taken-next done c.args.range.now c.loop-entry.entry-index c.entry-item.result c.loop-entry-test.true c.entry-item.is))
    (grown-next (done ++ first) c.entry-item.result c.loop-entry.self c.take.new.self (c.loop-entry.invariant done grown) c.in_ok-take.ensures.shown c.in_ok-take.ensures.last_connections)
