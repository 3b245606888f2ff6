use Rattle.std.proofs.Common.{◌≡◌, subst, sym, arith}
use Rattle.std.proofs.lemmas.Bool.Decides.{nat_tests}
use Rattle.reassembly.specs.RecordedView.{recorded_view}
use Rattle.toxic_defs.specs.DeliveredLines.{delivered_view}
use Rattle.segment_writer.specs.WrittenConnections.{written_connection}
use Rattle.worker_tests.proofs.WrittenLists.{AreWritten, conn_of_capture, none_written, one_more, lists_sorted, lists_once}
use Rattle.worker_tests.proofs.tests.merging.written.Goals as goal

pub loop-number-init : goal.loop-number-init
loop-number-init g c = subst (λ ls. AreWritten c.args.capture.now.ticks ls 0) (sym c.new-lists.ensures.items) (none_written c.args.capture.now.ticks)

pub lines-requires : goal.lines-requires
lines-requires g c =
    conn_of_capture c.conns_are_of_capture.ensures c.args.capture.now c.in_ok-table.table c.in_ok-table.ensures c.conns-conn-items.result.now c.conns-conn-items.ensures
    c.loop-number.number-counter c.loop-number-test.true c.conn-item.result c.conn-item.is

pub loop-number-preserved : goal.loop-number-preserved
loop-number-preserved g c =
    let conn = c.conn-item.result in
    let is : conn.number ≡ c.loop-number.number-counter = grind (arith, nat_tests) in
    one_more c.args.capture.now.ticks c.loop-number.lists.items c.push.new.self.items c.loop-number.number-counter
    (written_connection conn.number conn.vlan conn.client conn.server (recorded_view c.in_ok-recorded.recorded) (delivered_view c.in_ok-delivered.delivered))
    c.in_ok-segments.field-0 c.loop-number.invariant is (rw c.in_ok-recorded.ensures.up_ticks at c.in_ok-segments.ensures) c.in_ok-push.ensures.items

pub returns-clause-sorted : goal.returns-clause-sorted
returns-clause-sorted g c = lists_sorted c.keys_rise.ensures c.rising_is_sorted.ensures c.args.capture.now.ticks c.loop-number.lists.items c.loop-number.number-counter c.loop-number.invariant

pub returns-clause-once : goal.returns-clause-once
returns-clause-once g c = lists_once c.keys_stand_once.ensures c.args.capture.now.ticks c.loop-number.lists.items c.loop-number.number-counter c.loop-number.invariant
