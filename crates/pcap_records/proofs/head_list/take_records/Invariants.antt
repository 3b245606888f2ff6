use Rattle.std.proofs.Common.{◌≡◌, ◌≤◌, ℕ, ◌+◌, ◌-◌, List, length, drop, ◌++◌}
use Rattle.pcap_records.specs.CaptureView.{heading_of}
use Rattle.pcap_records.specs.Instants.{ticks_of}
use Rattle.pcap_records.specs.Heads.{read_on, some_heads}
use Rattle.pcap_records.specs.HeadLists.{AreKept, heads_kept}
use Rattle.pcap_records.proofs.head_list.take_records.Given as goal

-- whatever follows, the heads of the file stay the same
abbrev pub invariant-records : goal.invariant-records
invariant-records l = record {
  inside : l.at ≤ length l.bytes;
  taken : l.list.taken ≡ l.fn.list.taken + l.at;
  kept : AreKept (ticks_of l.heading.unit) l.list;
  same : (more : List ℕ) → read_on (some_heads (heading_of l.heading) (heads_kept l.fn.list)) (l.bytes ++ more) ≡ read_on (some_heads (heading_of l.heading) (heads_kept l.list)) (drop l.at l.bytes ++ more);
}

abbrev pub decreases-records : goal.decreases-records
decreases-records l = length l.bytes - l.at
