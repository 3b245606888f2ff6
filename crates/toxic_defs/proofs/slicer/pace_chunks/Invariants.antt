use Rattle.std.proofs.Common.{◌≡◌, min, take, drop}
use Rattle.pcap_records.specs.Instants.{horizon, ticks_of}
use Rattle.reassembly.specs.LineView.{bytes_of_parts}
use Rattle.toxic_defs.specs.DelayedBytes.{begins, moved}
use Rattle.toxic_defs.specs.Slicer.{slicer_leaves}
use Rattle.toxic_defs.specs.Slices.{AreFilled}
use Rattle.toxic_defs.proofs.Latest.{owed}
use Rattle.toxic_defs.proofs.slicer.pace_chunks.Given as goal

abbrev pub invariant-loop-part : goal.invariant-loop-part
invariant-loop-part l =
    let front = bytes_of_parts (take l.part-index l.initial.parts) in
    record {
      filled : AreFilled l.parts;
      rest : drop l.part-index l.parts ≡ drop l.part-index l.initial.parts;
      bytes : bytes_of_parts (take l.part-index l.parts) ≡ moved (slicer_leaves (horizon (ticks_of l.unit)) l.gap) front;
      last : l.last ≡ slicer_leaves (horizon (ticks_of l.unit)) l.gap front;
      next : l.next ≡ min (owed 1 l.gap 0 (begins front)) (horizon (ticks_of l.unit));
    }
