use Rattle.std.proofs.Common.{◌≡◌, ◌+◌, ◌-◌, length, length-drop, drop, Ok, ap, arith, ◌∙◌, sym}
use Rattle.pcap_records.specs.HeadLists.{heads_kept, seen}
use Rattle.pcap_records.proofs.HeadReading.{takes_last, ends_header, ends_records, ends_refused, tells}
use Rattle.pcap_records.proofs.heads.HeadReader.finish.Goals as goal

pub returns-in-Header : goal.returns-in-Header
returns-in-Header c =
    let bytes = c.args.bytes.now in
    let old = c.self.inside.progress in
    let new = c.take_part.new.progress in
    let rest = drop (new.list.taken - old.list.taken) bytes in
    takes_last c.args.self (seen old.state old.list) (seen new.state new.list) bytes c.self.view_is c.take_part.ensures.takes c.requires
    ∙ ends_header new.state (heads_kept new.list) rest c.in-Header.is c.in_ok-take_part.ensures.spent

pub returns-in_ok-heads_of_list-in-Records : goal.returns-in_ok-heads_of_list-in-Records
returns-in_ok-heads_of_list-in-Records c =
    let bytes = c.args.bytes.now in
    let old = c.self.inside.progress in
    let new = c.take_part.new.progress in
    let heading = c.in-Records.heading in
    let rest = drop (new.list.taken - old.list.taken) bytes in
    let left : old.list.taken + length bytes - new.list.taken ≡ length rest =
    omega (arith, length-drop (new.list.taken - old.list.taken) bytes, c.take_part.ensures.takes.forward, c.take_part.ensures.takes.within) in
    takes_last c.args.self (seen old.state old.list) (seen new.state new.list) bytes c.self.view_is c.take_part.ensures.takes c.requires
    ∙ ends_records new.state heading (heads_kept new.list) rest _ c.in-Records.is c.in_ok-take_part.ensures.spent left
    ∙ ap Ok (sym c.in_ok-heads_of_list-in-Records.ensures)

pub returns-in-Refused : goal.returns-in-Refused
returns-in-Refused c =
    let bytes = c.args.bytes.now in
    let old = c.self.inside.progress in
    let new = c.take_part.new.progress in
    let rest = drop (new.list.taken - old.list.taken) bytes in
    tells c.in-Refused.fault _
    (takes_last c.args.self (seen old.state old.list) (seen new.state new.list) bytes c.self.view_is c.take_part.ensures.takes c.requires
    ∙ ends_refused new.state c.in-Refused.fault (heads_kept new.list) rest c.in-Refused.is)
