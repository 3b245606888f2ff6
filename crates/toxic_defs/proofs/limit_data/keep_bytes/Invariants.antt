use Rattle.std.proofs.Common.{◌≡◌, ◌+◌, length, take}
use Rattle.reassembly.specs.LineView.{bytes_of_parts}
use Rattle.toxic_defs.proofs.limit_data.keep_bytes.Given as goal

abbrev pub invariant-loop-i : goal.invariant-loop-i
invariant-loop-i l = record {
  same : l.parts.items ≡ l.initial.parts.items;
  end : l.i-end ≡ length l.initial.parts.items;
  left : l.left + length (bytes_of_parts (take l.i l.initial.parts.items)) ≡ l.most;
}
