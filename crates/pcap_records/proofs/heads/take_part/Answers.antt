use Rattle.pcap_records.proofs.HeadReading.{takes_of_fault}
use Rattle.pcap_records.proofs.heads.take_part.Goals as goal

pub returns-in-Refused-clause-takes : goal.returns-in-Refused-clause-takes
returns-in-Refused-clause-takes c = rw c.in-Refused.is (takes_of_fault c.args.progress.now.list.taken c.in-Refused.field-0 c.args.bytes.now)
