use Rattle.std.proofs.Common.{◌-◌, drop, ap, arith, length-drop}
use Rattle.std.proofs.lemmas.Result.{on_ok_weaker}
use Rattle.pcap_records.specs.HeadLists.{seen}
use Rattle.pcap_records.proofs.HeadReading.{spent_short}
use Rattle.pcap_records.proofs.heads.HeadReader.take.Goals as goal

pub returns-clause-few : goal.returns-clause-few
returns-clause-few c =
    let bytes = c.args.bytes.now in
    let old = c.self.inside.progress in
    let new = c.take_part.new.progress in
    let taken = ap (λ v. v.taken) c.self.view_is in
    on_ok_weaker c.take_part.result
    (λ spent. omega (arith, taken, c.take_part.ensures.takes.forward, length-drop (new.list.taken - old.list.taken) bytes, spent_short (seen new.state new.list).found (drop (new.list.taken - old.list.taken) bytes) spent))
    c.take_part.ensures.spent
