-- The records so far, and those in the bytes that are left, are all.
use Rattle.std.proofs.Common.{◌≡◌, ◌++◌, map, drop}
use Rattle.pcap_records.specs.CaptureView.{contents_of}
use Rattle.pcap_records.specs.Reading.{file_header_len}
use Rattle.closed_loop.specs.Recordings.{raw_records, raws_of, rest_after}
use Rattle.closed_loop.proofs.stamping.raw_of.Given as goal

abbrev pub invariant-loop-i : goal.invariant-loop-i
invariant-loop-i l = record {
  raws : map (λ r. r.now) l.raws.items ++ raw_records (drop l.i (contents_of l.capture).packets) l.rest ≡ raws_of l.capture;
  rest : rest_after (drop l.i (contents_of l.capture).packets) l.rest
      ≡ rest_after (contents_of l.capture).packets (drop file_header_len l.capture.bytes);
}
