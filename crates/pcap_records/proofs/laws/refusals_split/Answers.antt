use Rattle.pcap_records.proofs.Splitting.{refusals_split}
use Rattle.pcap_records.proofs.laws.refusals_split.Goals as goal

pub returns : goal.returns
returns c = refusals_split
