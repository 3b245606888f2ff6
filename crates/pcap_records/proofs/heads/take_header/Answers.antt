use Rattle.std.proofs.Common.{arith}
use Rattle.std.proofs.lemmas.List.{take_rest}
use Rattle.pcap_records.specs.CaptureView.{heading_of}
use Rattle.pcap_records.specs.HeadLists.{seen}
use Rattle.pcap_records.proofs.HeadReading.{takes_header, takes_bad_header, left_after_header}
use Rattle.pcap_records.proofs.heads.take_header.Goals as goal

pub returns-in-Ok-clause-takes : goal.returns-in-Ok-clause-takes
returns-in-Ok-clause-takes c =
    let bytes = c.args.bytes.now in
    let old = c.args.progress.now.list in
    let new = c.take_on.new.progress in
    takes_header old.taken (seen new.state new.list) (heading_of c.in-Ok.heading) bytes (omega (arith, c.if-bytes-lt-FILE_HEADER_LEN.false)) c.in-Ok.ensures.exact
    (rw (c.requires.sound.1, take_rest bytes 24) at c.take_on.ensures.takes)

pub returns-in-Ok-clause-spent : goal.returns-in-Ok-clause-spent
returns-in-Ok-clause-spent c =
    let bytes = c.args.bytes.now in
    rw (← left_after_header c.args.progress.now.list.taken c.take_on.new.progress.list.taken bytes c.take_on.ensures.takes.forward)
    (rw (take_rest bytes 24) at c.take_on.ensures.spent)

pub returns-in-Err-clause-takes : goal.returns-in-Err-clause-takes
returns-in-Err-clause-takes c =
    takes_bad_header c.args.progress.now.list.taken c.in-Err.fault c.args.bytes.now (omega (arith, c.if-bytes-lt-FILE_HEADER_LEN.false)) c.in-Err.ensures.exact.1
