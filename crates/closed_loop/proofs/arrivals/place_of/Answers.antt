use Rattle.std.proofs.Common.{nat_lt, rules}
use Rattle.std.proofs.lemmas.List.Sorted.{IsPartitionPoint-from_clause}
use Rattle.closed_loop.specs.declared.arrivals.Arrival.{Arrival}
use Rattle.closed_loop.proofs.Runs.{counts_part, below_of, above_of}
use Rattle.closed_loop.proofs.arrivals.place_of.Goals as goal

pub returns-clause-below : goal.returns-clause-below
returns-clause-below c =
    let point = IsPartitionPoint-from_clause (λ (a : Arrival). nat_lt a.upto c.args.count) _ _ c.partition_point.ensures.partitioned (counts_part c.args.list.now c.args.count c.requires) (λ a r q k. search rules) in
    below_of c.args.list.now c.args.count c.partition_point.result point.0

pub returns-clause-above : goal.returns-clause-above
returns-clause-above c =
    let point = IsPartitionPoint-from_clause (λ (a : Arrival). nat_lt a.upto c.args.count) _ _ c.partition_point.ensures.partitioned (counts_part c.args.list.now c.args.count c.requires) (λ a r q k. search rules) in
    above_of c.args.list.now c.args.count c.partition_point.result point.1
