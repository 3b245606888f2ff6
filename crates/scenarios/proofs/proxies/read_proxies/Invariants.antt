use Rattle.std.proofs.Common.{◌≡◌, ◌≤◌, [], drop, length}
use Rattle.serde_json.specs.View.{items_view}
use Rattle.scenarios.specs.Proxies.{proxy_limit, proxies_from}
use Rattle.scenarios.proofs.proxies.read_proxies.Given as goal

-- the rest, read after what was read, gives what the whole gives
abbrev pub invariant-loop-value : goal.invariant-loop-value
invariant-loop-value l = (proxies_from l.hosts l.proxies.items (items_view (drop l.value-index l.items)) ≡ proxies_from l.hosts [] (items_view l.items)) × (length l.proxies.items ≤ proxy_limit)
