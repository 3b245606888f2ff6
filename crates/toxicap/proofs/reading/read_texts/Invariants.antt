use Rattle.std.proofs.Common.{◌≡◌, [], drop, length, map}
use Rattle.toxicap.specs.{scenarios_from}
use Rattle.toxicap.proofs.reading.read_texts.Given as goal

abbrev pub invariant-loop-number : goal.invariant-loop-number
invariant-loop-number l =
    (scenarios_from l.hosts l.scenarios.items (map (λ t. t.now) (drop l.number l.texts)) ≡ scenarios_from l.hosts [] (map (λ t. t.now) l.texts))
    × (length l.scenarios.items ≡ l.number)
