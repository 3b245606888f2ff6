use Rattle.std.proofs.Common.{◌≡◌, ◌+◌, length, take, drop}
use Rattle.pcap_records.specs.Instants.{horizon, ticks_of}
use Rattle.reassembly.specs.LineView.{bytes_of_parts}
use Rattle.toxic_defs.specs.RandomWords.{word_of}
use Rattle.toxic_defs.specs.DelayedBytes.{begins}
use Rattle.toxic_defs.specs.Latency.{late_bytes, latency_leaves, drawn_delay}
use Rattle.toxic_defs.specs.DrawnNumbers.{GivesNext}
use Rattle.toxic_defs.proofs.latency.delay_chunks.Given as goal

abbrev pub invariant-loop-part : goal.invariant-loop-part
invariant-loop-part l =
    let front = bytes_of_parts (take l.part-index l.initial.parts) in
    record {
      rest : drop l.part-index l.parts ≡ drop l.part-index l.initial.parts;
      bytes : bytes_of_parts (take l.part-index l.parts) ≡ late_bytes (ticks_of l.unit) (word_of l.fn.key) l.fn.latency l.fn.jitter front;
      last : l.last ≡ latency_leaves (horizon (ticks_of l.unit)) (drawn_delay (ticks_of l.unit) (word_of l.fn.key) l.fn.latency l.fn.jitter) front;
      numbers : GivesNext l.numbers l.fn.key l.fn.jitter (1 + length (begins front));
    }
