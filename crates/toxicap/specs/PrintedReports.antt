-- The reports of a rehearsal, one after another: what is printed if no folder is named.
use Rattle.std.specs.Prelude.{ℕ, List, Result, Ok, Err}
use Rattle.toxicap.specs.Words.{RunFault, Output, reports_of}
use Rattle.toxicap.specs.RunEnds.{Step, UnlessMemory, WritesText, Written}

abbrev pub reports_in : Result (List Output) RunFault → Result (List ℕ) RunFault
reports_in (Ok outputs) = Ok (reports_of outputs)
reports_in (Err fault) = Err fault

-- How printing ends, by what is called for: on a refusal nothing is written. Else the reports are, whole and once; or a write fails, and a first
-- part of them is written, not all.
abbrev pub PrintsOf : Result (Unit {0}) RunFault → Result (List Output) RunFault → Written → Type 0
PrintsOf outcome expected w = Step (UnlessMemory expected) outcome w.NothingWritten (λ outputs. WritesText outcome (reports_of outputs) w)
