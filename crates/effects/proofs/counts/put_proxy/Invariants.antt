use Rattle.std.proofs.Common.{◌≡◌, ◌++◌}
use Rattle.effects.specs.Marks.{proxy_marks}
use Rattle.effects.proofs.counts.put_proxy.Given as goal

abbrev pub invariant-loop-t : goal.invariant-loop-t
invariant-loop-t l = l.counts.items ≡ l.fn.counts.items ++ proxy_marks l.marks l.t
