use Rattle.std.proofs.Common.{◌≡◌, map, take}
use Rattle.closed_loop.proofs.sessions.sessions_of.Given as goal
use Rattle.closed_loop.specs.Openings.{SessionView}

abbrev pub invariant-loop-i : goal.invariant-loop-i
invariant-loop-i l = record {
  scripts : map (λ (x : SessionView). x.script) l.sessions.items ≡ take l.i l.scripts;
  forerunners : map (λ (x : SessionView). x.forerunners) l.sessions.items ≡ take l.i l.forerunners;
  hearings : map (λ (x : SessionView). x.hearing) l.sessions.items ≡ take l.i l.hearings;
}
