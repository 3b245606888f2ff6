use Rattle.std.proofs.Common.{◌≡◌, ◌≤◌, ◌-◌, drop, length, length-drop, length-take, arith, refl, ap, ◌∙◌}
use Rattle.std.proofs.lemmas.List.{take_rest}
use Rattle.pcap_records.specs.Reading.{number_in, packet_len, stamp_of}
use Rattle.pcap_records.specs.CaptureView.{bytes_of, heading_of}
use Rattle.pcap_records.proofs.FileHeaders.{packet_len_within, stamp_within}
use Rattle.pcap_records.proofs.Passes.{record_stands_at}
use Rattle.pcap_records.proofs.reader.found_at.Goals as goal

pub stamp_of-requires : goal.stamp_of-requires
stamp_of-requires c =
    omega (arith, ap length c.slice-header.ensures, length-take 16 (drop c.args.at (bytes_of c.args.bytes)), length-drop c.args.at (bytes_of c.args.bytes), c.len.ensures, c.if-rest-lt-RECORD_HEADER_LEN.false)

pub returns : goal.returns
returns c =
    let bytes = bytes_of c.args.bytes in
    let at = c.args.at in
    let h = heading_of c.args.heading in
    let header = c.slice-header.ensures in
    let len : c.u32_of-len.result ≡ packet_len h (drop at bytes) =
    c.u32_of-len.ensures
    ∙ ap (number_in c.args.heading.order 4) (take_rest c.slice-header.result.now 8)
    ∙ ap (packet_len h) header
    ∙ packet_len_within h (drop at bytes) in
    let stamped : c.stamp_of.result ≡ stamp_of h (drop at bytes) = c.stamp_of.ensures ∙ ap (stamp_of h) header ∙ stamp_within h (drop at bytes) in
    let long : 16 ≤ length (drop at bytes) = omega (arith, length-drop at bytes, c.len.ensures, c.if-rest-lt-RECORD_HEADER_LEN.false) in
    let held : c.u32_of-len.result ≤ length (drop at bytes) - 16 = omega (arith, length-drop at bytes, c.len.ensures, c.if-rest-len.false) in
    record_stands_at h bytes at _ refl len stamped long c.if-len-gt-PACKET_LIMIT.false held (rw c.stamp_of.ensures (omega arith))
