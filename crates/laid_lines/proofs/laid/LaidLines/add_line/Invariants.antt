use Rattle.std.proofs.Common.{◌≡◌, ◌+◌, ◌++◌, drop, length}
use Rattle.std.specs.List.{flat_map}
use Rattle.pcap_records.specs.Instants.{ticks_of}
use Rattle.reassembly.specs.LineView.{bytes_of_parts}
use Rattle.toxic_defs.specs.Laws.{values_of}
use Rattle.laid_lines.specs.FlatLines.{chunk, nanoseconds_since}
use Rattle.laid_lines.proofs.LineParts.{chunks_from}
use Rattle.laid_lines.proofs.laid.LaidLines.add_line.Given as goal

-- what is laid, and what is left of the line, is all of it
abbrev pub invariant-loop-part : goal.invariant-loop-part
invariant-loop-part l = record {
  bytes : flat_map (λ p. p.now) l.self.pieces.items ++ values_of (bytes_of_parts (drop l.part-index l.parts)) ≡ flat_map (λ p. p.now) l.initial.self.pieces.items ++ values_of (bytes_of_parts l.parts);
  chunks : l.self.chunks.items ++ chunks_from (nanoseconds_since (ticks_of l.fn.opening.unit) l.fn.opening.at) l.begun (bytes_of_parts (drop l.part-index l.parts))
      ≡ l.initial.self.chunks.items ++ chunks_from (nanoseconds_since (ticks_of l.fn.opening.unit) l.fn.opening.at) (chunk 0 0) (bytes_of_parts l.parts);
  count : l.begun.end + length (bytes_of_parts (drop l.part-index l.parts)) ≡ length (bytes_of_parts l.parts);
  connections : l.self.connections ≡ l.initial.self.connections;
}
