use Rattle.pcap_records.proofs.ReadingBack.{written_is_read}
use Rattle.pcap_records.proofs.laws.written_is_read.Goals as goal

pub returns : goal.returns
returns c = written_is_read
