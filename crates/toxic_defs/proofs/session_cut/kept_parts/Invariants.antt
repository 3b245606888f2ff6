use Rattle.std.proofs.Common.{◌≡◌, ◌≤◌, length, take}
use Rattle.reassembly.specs.LineView.{bytes_of_parts}
use Rattle.toxic_defs.proofs.FirstBytes.{bytes_before}
use Rattle.toxic_defs.proofs.session_cut.kept_parts.Given as goal

abbrev pub invariant-parts : goal.invariant-parts
invariant-parts l = record { within : l.kept ≤ length l.parts; kept : bytes_before l.limit (bytes_of_parts (take l.kept l.parts)) ≡ bytes_before l.limit (bytes_of_parts l.parts) }

abbrev pub decreases-parts : goal.decreases-parts
decreases-parts l = l.kept
