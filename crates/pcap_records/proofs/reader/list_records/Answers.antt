use Rattle.std.proofs.Common.{◌≡◌, length, map, drop, ◌+◌, ◌-◌, sym, subst, ◌∙◌, arith, length-drop}
use Rattle.std.proofs.lemmas.List.{drop-drop, map_push, length_push}
use Rattle.std.proofs.lemmas.List.Elements.{All-push, All-nil}
use Rattle.pcap_records.specs.Instants.{ticks_of}
use Rattle.lists.specs.Agreement.{Refuses}
use Rattle.pcap_records.specs.CaptureView.{bytes_of, heading_of, IsWithinFile, packet_of, capture_refusal}
use Rattle.pcap_records.proofs.Passes.{listed_before-none, listed-whole, listed-torn, listed-too_long, refuses-listed}
use Rattle.pcap_records.proofs.reader.list_records.Goals as goal

pub records-init : goal.records-init
records-init c = record {
  inside = omega arith;
  header_each = rw c.new-records.ensures.items (omega arith);
  within = rw c.new-records.ensures.items (All-nil (IsWithinFile (ticks_of c.args.heading.unit) (bytes_of c.args.bytes)));
  same = rw c.new-records.ensures.items (listed_before-none _);
}

pub returns-in-Torn-clause-exact : goal.returns-in-Torn-clause-exact
returns-in-Torn-clause-exact c =
    let bytes = bytes_of c.args.bytes in
    let h = heading_of c.args.heading in
    let rest : c.len.result - c.records.at ≡ length (drop c.records.at bytes) = omega (arith, c.len.ensures, length-drop c.records.at bytes) in
    sym c.records.invariant.same
    ∙ (rw (rest) (listed-torn h (map (packet_of bytes) c.records.records.items) (length c.records.records.items) (drop c.records.at bytes) c.in-Torn.ensures))

pub returns-in-TooLong-clause-exact : goal.returns-in-TooLong-clause-exact
returns-in-TooLong-clause-exact c =
    let bytes = bytes_of c.args.bytes in
    let count : c.len-at.result ≡ length c.records.records.items = omega (arith, c.len-at.ensures, c.records.records.ok.0) in
    sym c.records.invariant.same
    ∙ (rw count (listed-too_long (heading_of c.args.heading) (map (packet_of bytes) c.records.records.items) (length c.records.records.items) (drop c.records.at bytes) c.in-TooLong.ensures))

pub records-preserved : goal.records-preserved
records-preserved c =
    let bytes = bytes_of c.args.bytes in
    let h = heading_of c.args.heading in
    let found = c.in-Whole.ensures in
    let before = c.records.records.items in
    record {
      inside = omega (arith, found.within.ends, found.start);
      header_each = rw (c.in-Ok.ensures.items, length_push before c.in-Whole.record) (omega (arith, c.records.invariant.header_each));
      within = rw c.in-Ok.ensures.items (All-push (IsWithinFile (ticks_of c.args.heading.unit) bytes) before c.in-Whole.record c.records.invariant.within found.within);
      same =
          rw (c.in-Ok.ensures.items, map_push (packet_of bytes) before c.in-Whole.record, length_push before c.in-Whole.record, found.packet, ← drop-drop (16 + c.in-Whole.record.len) c.records.at bytes, found.len)
          (sym (listed-whole h (map (packet_of bytes) before) (length before) (drop c.records.at bytes) found.is_whole) ∙ c.records.invariant.same);
    }

-- the record found no memory: what refuses the records after it refuses the file
pub returns-in_default-clause-exact : goal.returns-in_default-clause-exact
returns-in_default-clause-exact c =
    let bytes = bytes_of c.args.bytes in
    let h = heading_of c.args.heading in
    let found = c.in-Whole.ensures in
    let before = c.records.records.items in
    let count : c.len-in-Whole.result + 1 ≡ length before + 1 = omega (arith, c.len-in-Whole.ensures, c.records.records.ok.0) in
    let o = capture_refusal c.fault_after.result in
    let after = rw (count, ← drop-drop (16 + c.in-Whole.record.len) c.records.at bytes, found.len) at c.fault_after.ensures in
    subst (λ read. Refuses o read) (sym (listed-whole h (map (packet_of bytes) before) (length before) (drop c.records.at bytes) found.is_whole) ∙ c.records.invariant.same)
    (refuses-listed o _ _ after)
