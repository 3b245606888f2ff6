use Rattle.toxic_defs.proofs.ToxicLines.{toxics_delay, chains_delay}
use Rattle.toxic_defs.proofs.laws.toxics_delay.Goals as goal

pub returns-clause-toxic : goal.returns-clause-toxic
returns-clause-toxic c = toxics_delay

pub returns-clause-chain : goal.returns-clause-chain
returns-clause-chain c = chains_delay
