use Rattle.pcap_records.proofs.Running.{carried_is_whole}
use Rattle.pcap_records.proofs.laws.carried_is_whole.Goals as goal

pub returns : goal.returns
returns c = carried_is_whole
