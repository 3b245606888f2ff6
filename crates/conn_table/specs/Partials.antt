-- What a partial stands for: what is kept of a range's segments, in the order of the file, and the number of its packets of each class.
use Rattle.std.specs.Prelude.{◌≡◌, ◌≤◌, ℕ, ◌+◌, max, List, ◌++◌, map, length, slice_range}
use Rattle.pcap_records.specs.Instants.{greatest}
use Rattle.pcap_records.specs.CaptureView.{CaptureView, contents_of, stamps_between}
use Rattle.conn_table.specs.SeenCapture.{SeenPacket, seen_packets}
use Rattle.conn_table.specs.IndexedSegments.{IndexedSegment, indexed_segments}
use Rattle.conn_table.specs.ClassCounts.{counts_of}
use Rattle.conn_table.specs.KeptSegments.{KeptSegment, kept_in}
use Rattle.conn_table.specs.declared.class_counts.Counts.{Counts}

-- ---- the partial of a range of records

pub record PartialView : Type 0 where
  pub from : ℕ
  pub to : ℕ
  pub counts : Counts
  pub segments : List KeptSegment

-- the packets of a range; `carry` is the greatest stamp before it
abbrev pub packets_between : CaptureView → ℕ → ℕ → ℕ → List SeenPacket
packets_between c from to carry = seen_packets carry (slice_range (contents_of c).packets from to)

abbrev pub segments_between : CaptureView → ℕ → ℕ → ℕ → List IndexedSegment
segments_between c from to carry = indexed_segments from (packets_between c from to carry)

unfoldable pub partial_in : CaptureView → ℕ → ℕ → ℕ → PartialView
partial_in c from to carry = record {
  from = from;
  to = to;
  counts = counts_of (packets_between c from to carry);
  segments = map (kept_in c) (segments_between c from to carry);
}

-- ---- two adjacent ranges

abbrev pub counts_sum : Counts → Counts → Counts
counts_sum a b = record {
  segment = a.segment + b.segment;
  short = a.short + b.short;
  not_ipv4 = a.not_ipv4 + b.not_ipv4;
  bad_ipv4 = a.bad_ipv4 + b.bad_ipv4;
  fragment = a.fragment + b.fragment;
  not_tcp = a.not_tcp + b.not_tcp;
  cut = a.cut + b.cut;
  bad_tcp = a.bad_tcp + b.bad_tcp;
  same_ends = a.same_ends + b.same_ends;
}

unfoldable pub joined_partial : PartialView → PartialView → PartialView
joined_partial left right = record {
  from = left.from;
  to = right.to;
  counts = counts_sum left.counts right.counts;
  segments = left.segments ++ right.segments;
}

-- the greatest stamp before `to`, if `carry` is the greatest before `from`
abbrev pub carried : CaptureView → ℕ → ℕ → ℕ → ℕ
carried c from to carry = max carry (greatest (stamps_between c from to))

-- the join of the partials of two adjacent ranges is the partial of both
abbrev pub JoinsAgree : Type 0
JoinsAgree =
    (c : CaptureView) (from mid to carry : ℕ) → from ≤ mid → mid ≤ to → to ≤ length c.records
    → joined_partial (partial_in c from mid carry) (partial_in c mid to (carried c from mid carry)) ≡ partial_in c from to carry
