use Rattle.std.proofs.Common.{length, ◌-◌}
use Rattle.segment_writer.specs.LineCursors.{IsAcknowledged}
use Rattle.segment_writer.proofs.turns.acknowledge.Given as goal

abbrev pub invariant-loop-part : goal.invariant-loop-part
invariant-loop-part l = IsAcknowledged l.parts (record { part = l.part; bytes = l.bytes }) l.at

abbrev pub decreases-loop-part : goal.decreases-loop-part
decreases-loop-part l = length l.parts - l.part
