use Rattle.std.proofs.Common.{◌≡◌, [], drop, length, map}
use Rattle.toxicap.specs.{host_lines, hosts_from}
use Rattle.toxicap.proofs.host_lines.read_host_lines.Given as goal

abbrev pub invariant-loop-at : goal.invariant-loop-at
invariant-loop-at l =
    (hosts_from l.hosts (map (λ line. line.now) (drop l.at l.line-items)) ≡ hosts_from [] (host_lines l.text))
    × (length l.hosts ≡ l.at)
