use Rattle.std.proofs.Common.{◌≡◌, ℕ, drop}
use Rattle.std.specs.Option.{option_or}
use Rattle.pcap_records.specs.CaptureView.{bytes_of}
use Rattle.reassembly.specs.Spans.{spans, first_byte, layered_byte, Taken}
use Rattle.reassembly.specs.MemberSpans.{member_spans, own_members}
use Rattle.reassembly.proofs.passes.side_patches.Given as goal

abbrev pub invariant-pass : goal.invariant-pass
invariant-pass l = record {
  state : Taken (spans l.whole.items) (spans l.late.items) l.covered.since l.covered.high;
  same : (x : ℕ) → option_or (layered_byte (spans l.whole.items) (spans l.late.items) x) (first_byte (member_spans l.base (bytes_of l.file) (own_members l.from_client (drop l.member-index l.members))) x) ≡ first_byte (member_spans l.base (bytes_of l.file) (own_members l.from_client l.members)) x;
}
