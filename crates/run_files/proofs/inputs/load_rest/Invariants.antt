use Rattle.std.proofs.Common.{◌≡◌, ◌-◌, ◌≤◌, ◌++◌, ℕ, List, length}
use Rattle.run_files.specs.{capture_limit, ComesOn}
use Rattle.run_files.proofs.inputs.load_rest.Given as goal

-- all that came is within the limit, and begins with what came at first
abbrev pub invariant-reads : goal.invariant-reads
invariant-reads g l = record {
  can : g.I.Input.can_read l.input;
  came : ComesOn g.I.Input.gives l.fn.input l.fn.came.items l.input l.bytes.items;
  within : length l.bytes.items ≤ capture_limit;
  first : (rest : List ℕ) × (l.bytes.items ≡ l.fn.came.items ++ rest);
}

-- each read but the last gives a byte
abbrev pub decreases-reads : goal.decreases-reads
decreases-reads g l = capture_limit - length l.bytes.items
