use Rattle.std.proofs.Common.{◌≡◌, map}
use Rattle.time_merge.specs.KeyedSegments.{place_of}
use Rattle.time_merge.proofs.key_order.merged_places.Given as goal

abbrev pub invariant-loop-next : goal.invariant-loop-next
invariant-loop-next g l = l.places.items ≡ map place_of l.yielded
