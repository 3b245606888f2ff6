use Rattle.std.proofs.Common.{◌≡◌, ◌≤◌, ◌+◌, ◌*◌, [], length, take, drop}
use Rattle.pcap_records.specs.Instants.{horizon, millisecond, ticks_of}
use Rattle.reassembly.specs.LineView.{bytes_of_parts}
use Rattle.toxic_defs.specs.Bandwidth.{bandwidth_leaves, charged}
use Rattle.toxic_defs.specs.Slices.{AreFilled}
use Rattle.toxic_defs.proofs.ChargedParts.{owed_of}
use Rattle.toxic_defs.proofs.bandwidth.charge_parts.Given as goal

abbrev pub invariant-loop-part : goal.invariant-loop-part
invariant-loop-part l =
    let front = bytes_of_parts (take l.part-index l.initial.parts) in
    record {
      filled : AreFilled l.parts;
      rest : drop l.part-index l.parts ≡ drop l.part-index l.initial.parts;
      charged : take l.part-index l.parts ≡ charged (bandwidth_leaves (horizon (ticks_of l.unit)) (millisecond (ticks_of l.unit)) l.fn.rate) [] (take l.part-index l.initial.parts);
      busy : l.busy ≡ owed_of l.fn.rate (millisecond (ticks_of l.unit)) front;
      small : l.busy ≤ 1000000 * 18446744073709551616 + 1000000 * length front;
    }
