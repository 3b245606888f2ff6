use Rattle.std.proofs.Common.{refl}
use Rattle.toxicap.proofs.HostTexts.{none_written}
use Rattle.toxicap.proofs.host_lines.add_line.Goals as goal

pub returns-in-Err : goal.returns-in-Err
returns-in-Err c = (none_written c.addresses_are_dotted.ensures c.args.hosts.now c.args.line.now c.in-Err.ensures.cases.0, refl, refl)
