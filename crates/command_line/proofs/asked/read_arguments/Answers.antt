use Rattle.std.proofs.Common.{map}
use Rattle.command_line.proofs.ReadingSteps.{matched, faultless, faulty, stopped}
use Rattle.command_line.proofs.asked.read_arguments.Goals as goal

pub returns-in_ok-asked_in-in-Ok : goal.returns-in_ok-asked_in-in-Ok
returns-in_ok-asked_in-in-Ok g c =
    let arguments = map g.S.AsStr.text c.args.arguments.now in
    let app = c.in_ok-program.ensures in
    let parse = c.in-Ok.ensures in
    let asked = c.in_ok-asked_in-in-Ok.ensures in
    (asked.range, faultless _ arguments app parse.kinds, rw (matched _ arguments _ app parse.matches) at asked.asks)

pub returns-in-Err : goal.returns-in-Err
returns-in-Err g c =
    let arguments = map g.S.AsStr.text c.args.arguments.now in
    stopped arguments c.in-Err.error c.stop_of.result (faulty _ arguments c.in-Err.error c.in_ok-program.ensures c.in-Err.ensures.kinds) c.stop_of.ensures
