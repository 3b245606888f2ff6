use Rattle.std.proofs.Common.{arith}
use Rattle.toxic_defs.specs.declared.words.Key.{Key}
use Rattle.toxic_defs.proofs.slices.Sizes.same.Goals as goal

-- without a spread any key will do
any_key : Key
any_key = record { seed = 0; s = 0; c = 0; d = 0; t = 0 }

pub returns-clause-sizes : goal.returns-clause-sizes
returns-clause-sizes c = record { key = any_key; spread = 0; next = c.none.ensures.next any_key 1; sizes = λ j. omega arith }
