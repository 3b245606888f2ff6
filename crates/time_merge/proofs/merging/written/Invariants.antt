use Rattle.std.proofs.Common.{◌≡◌, map, take}
use Rattle.pcap_records.specs.Instants.{ticks_of}
use Rattle.time_merge.specs.KeyedSegments.{places_in, segment_at}
use Rattle.time_merge.specs.MergedCapture.{capture_in_turn}
use Rattle.time_merge.specs.Sinks.{IsWritten}
use Rattle.time_merge.proofs.merging.written.Given as goal

-- what the sink took, and the batch after it, are the header and the records of the segments until now
abbrev pub invariant-loop-number : goal.invariant-loop-number
invariant-loop-number g l = record {
  written : IsWritten (g.S.CaptureSink.took l.sink) l.batch.items (capture_in_turn (ticks_of l.fn.unit) (map (segment_at g.L.Keys.segments l.lists) (take l.number (places_in l.order))));
  same : g.S.CaptureSink.place l.sink ≡ g.S.CaptureSink.place l.initial.sink;
}
