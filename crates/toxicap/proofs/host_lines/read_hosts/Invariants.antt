use Rattle.std.proofs.Common.{◌≡◌, [], drop, length, map}
use Rattle.toxicap.specs.{hosts_from}
use Rattle.toxicap.proofs.host_lines.read_hosts.Given as goal

abbrev pub invariant-loop-at : goal.invariant-loop-at
invariant-loop-at l =
    (hosts_from l.hosts (map (λ host. host.now) (drop l.at l.written)) ≡ hosts_from [] (map (λ host. host.now) l.written))
    × (length l.hosts ≡ l.at)
