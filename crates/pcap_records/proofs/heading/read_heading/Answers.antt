use Rattle.std.proofs.Common.{◌≤◌, length, length-take, arith, ap}
use Rattle.pcap_records.specs.CaptureView.{bytes_of}
use Rattle.pcap_records.proofs.FileHeaders.{heading_is, heading_within}
use Rattle.pcap_records.proofs.heading.read_heading.Goals as goal

pub heading_in-requires : goal.heading_in-requires
heading_in-requires c = omega (arith, ap length c.slice.ensures, length-take 24 (bytes_of c.args.bytes), c.len-2.ensures, c.if-len-lt-FILE_HEADER_LEN.false)

pub returns-clause-exact : goal.returns-clause-exact
returns-clause-exact c =
    let bytes = bytes_of c.args.bytes in
    let short : length bytes ≤ 1073741824 = omega (arith, c.len.ensures, c.if-len-gt-CAPTURE_LIMIT.false) in
    let long : 24 ≤ length bytes = omega (arith, c.len-2.ensures, c.if-len-lt-FILE_HEADER_LEN.false) in
    let told = rw c.slice.ensures at c.heading_in.ensures in
    rw (heading_is bytes short long) (rw (heading_within bytes) at told)
