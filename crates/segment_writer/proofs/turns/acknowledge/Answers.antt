use Rattle.std.proofs.Common.{◌∙◌, sym, arith}
use Rattle.segment_writer.specs.declared.turns.Acknowledged.{Acknowledged}
use Rattle.segment_writer.proofs.Acknowledging.{count_fits, acknowledged_more, acknowledged_all, acknowledged_until, same_len}
use Rattle.segment_writer.proofs.turns.acknowledge.Goals as goal

pub overflow_cast-bytes : goal.overflow_cast-bytes
overflow_cast-bytes c =
    let h : Acknowledged = record { part = c.loop-part.part; bytes = c.loop-part.bytes } in
    omega (arith, count_fits c.args.parts.now h c.args.at _ _ c.loop-part.invariant c.part_at-in-loop-part.ensures, c.requires.short)

pub overflow_add-bytes : goal.overflow_add-bytes
overflow_add-bytes c =
    let h : Acknowledged = record { part = c.loop-part.part; bytes = c.loop-part.bytes } in
    omega (arith, count_fits c.args.parts.now h c.args.at _ _ c.loop-part.invariant c.part_at-in-loop-part.ensures, c.requires.short)

pub loop-part-preserved : goal.loop-part-preserved
loop-part-preserved c =
    let h : Acknowledged = record { part = c.loop-part.part; bytes = c.loop-part.bytes } in
    acknowledged_more c.args.parts.now h c.args.at _ _ _ c.loop-part.invariant c.part_at.ensures c.loop-part-test.true (sym c.is_before.ensures ∙ c.if-is_before.true)
    (same_len c.args.parts.now h.part _ _ _ _ c.part_at.ensures c.part_at-in-loop-part.ensures)

pub returns-else-is_before-clause-all : goal.returns-else-is_before-clause-all
returns-else-is_before-clause-all c =
    let h : Acknowledged = record { part = c.loop-part.part; bytes = c.loop-part.bytes } in
    acknowledged_until c.args.parts.now h c.args.at _ _ c.loop-part.invariant c.part_at.ensures (sym c.is_before.ensures ∙ c.if-is_before.false) c.requires.climbs

pub returns-after-loop-part-clause-all : goal.returns-after-loop-part-clause-all
returns-after-loop-part-clause-all c =
    let h : Acknowledged = record { part = c.loop-part.part; bytes = c.loop-part.bytes } in
    acknowledged_all c.args.parts.now h c.args.at c.loop-part.invariant c.loop-part-test.false
