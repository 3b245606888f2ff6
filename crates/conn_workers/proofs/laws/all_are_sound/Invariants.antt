use Rattle.std.proofs.Common.{take, All}
use Rattle.std.specs.List.{AllByRecursion}
use Rattle.scenarios.specs.ProxyLaws.{IsSound}
use Rattle.conn_workers.proofs.laws.all_are_sound.Given as goal

abbrev pub invariant-loop-scenario : goal.invariant-loop-scenario
invariant-loop-scenario l = All (AllByRecursion IsSound) (take l.scenario-index l.scenarios)
