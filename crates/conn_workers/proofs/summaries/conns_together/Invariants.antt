use Rattle.std.proofs.Common.{◌≡◌, take}
use Rattle.std.specs.List.{flat_map}
use Rattle.conn_workers.proofs.summaries.conns_together.Given as goal

abbrev pub invariant-loop-share : goal.invariant-loop-share
invariant-loop-share l = l.conns.items ≡ flat_map (λ share. share.connections) (take l.share-index l.shares)
