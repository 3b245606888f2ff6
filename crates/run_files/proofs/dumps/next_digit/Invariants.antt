use Rattle.std.proofs.Common.{◌≡◌, ◌≤◌, length}
use Rattle.run_files.specs.{without_blanks}
use Rattle.run_files.proofs.dumps.next_digit.Given as goal

abbrev pub invariant-blanks : goal.invariant-blanks
invariant-blanks l = record { same : without_blanks l.fn.text ≡ without_blanks l.rest; within : length l.rest ≤ length l.fn.text }

abbrev pub decreases-blanks : goal.decreases-blanks
decreases-blanks l = length l.rest
