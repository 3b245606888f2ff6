use Rattle.pcap_records.proofs.writing.write_record.Goals as goal
use Rattle.std.proofs.Common.{rules, append_assoc}

pub returns-clause-ok : goal.returns-clause-ok
returns-clause-ok c = search (rules, append_assoc)
