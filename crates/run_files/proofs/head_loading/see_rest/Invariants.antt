use Rattle.std.proofs.Common.{◌+◌, ◌-◌, ◌≤◌, ℕ, List, take}
use Rattle.run_files.specs.{capture_limit, ComesOn}
use Rattle.run_files.proofs.SeenParts.{IsSeenSoFar}
use Rattle.run_files.proofs.head_loading.see_rest.Given as goal

-- all that came was seen except what is held
abbrev pub invariant-reads : goal.invariant-reads
invariant-reads g l = record {
  can : g.I.Input.can_read l.input;
  within : l.reader.taken + l.held ≤ capture_limit;
  text : (given : List ℕ) × ComesOn g.I.Input.gives l.fn.input (take l.fn.len l.fn.buffer) l.input given × IsSeenSoFar l.reader l.buffer l.held given;
}

-- each read but the last gives a byte
abbrev pub decreases-reads : goal.decreases-reads
decreases-reads g l = capture_limit - (l.reader.taken + l.held)
