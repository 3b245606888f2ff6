use Rattle.std.proofs.Common.{◌≡◌, ◌≤◌, length, take}
use Rattle.reassembly.specs.LineView.{bytes_of_parts}
use Rattle.toxic_defs.proofs.end_rule.last_instant.Given as goal

abbrev pub invariant-parts : goal.invariant-parts
invariant-parts l = record { within : l.count ≤ length l.parts; all : bytes_of_parts (take l.count l.parts) ≡ bytes_of_parts l.parts }

abbrev pub decreases-parts : goal.decreases-parts
decreases-parts l = l.count
