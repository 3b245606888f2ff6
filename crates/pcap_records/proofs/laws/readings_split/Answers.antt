use Rattle.pcap_records.proofs.Splitting.{readings_split}
use Rattle.pcap_records.proofs.laws.readings_split.Goals as goal

pub returns : goal.returns
returns c = readings_split
