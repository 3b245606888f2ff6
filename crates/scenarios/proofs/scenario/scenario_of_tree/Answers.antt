use Rattle.serde_json.specs.View.{items_view}
use Rattle.scenarios.proofs.SoundScenarios.{proxies_are_sound}
use Rattle.scenarios.proofs.scenario.scenario_of_tree.Goals as goal

pub invariant_of-result : goal.invariant_of-result
invariant_of-result c =
    let read = c.in_ok-proxies.ensures in
    (read.bound, proxies_are_sound c.args.hosts.now (items_view c.deref.result.now) c.in_ok-proxies.proxies.items read.is)
