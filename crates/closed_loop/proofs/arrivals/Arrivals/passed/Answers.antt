use Rattle.closed_loop.proofs.arrivals.Arrivals.passed.Goals as goal

pub returns-clause-count : goal.returns-clause-count
returns-clause-count c = c.count_to-count.ensures c.args.number c.runs.invariant (c.is_before.ensures.no c.runs-test.false)
