use Rattle.pcap_records.proofs.Splitting.{splits_are_refused}
use Rattle.pcap_records.proofs.laws.splits_are_refused.Goals as goal

pub returns : goal.returns
returns c = splits_are_refused
