-- How a call ends by what it is called for.
use Rattle.std.specs.Prelude.{◌≡◌, ◌⊎◌, ℕ, Bool, true, false, List, length, Result, Ok, Err, IfSome}
use Rattle.run_files.specs.declared.error.RunFault.{RunFault}
use Rattle.run_files.specs.declared.error.RunFault.TheVariants.{Memory}
use Rattle.run_files.specs.RunFault.{fault_text, run_refusal}
use Rattle.toxicap_c.specs.declared.statuses.Status.{Status}
use Rattle.toxicap_c.specs.declared.statuses.Status.TheVariants.{Answered, Refused, LittleRoom, NoMemory}
use Rattle.toxicap_c.specs.Buffers.{Buffers, Puts, put_of_text}
use Rattle.toxicap_c.specs.Refusals.{IsTextOf}
use Rattle.toxicap_c.specs.Statuses.{code_of}

-- the refusal was called for, or memory ran out
abbrev pub IsTold : {A : Type 0} → RunFault → Result A RunFault → Type 0
IsTold fault expected = IfSome (run_refusal fault) (λ refused. expected ≡ Err refused)

-- of a call whose sizes are of this type, by how much of each buffer is put
module _ {A C S : Type 0} (sized : ℕ → ℕ → ℕ → S) where
  -- what was called for: an answer, or a refusal's text
  abbrev pub IsCalledFor : ℕ → Buffers A C → Result (Buffers A C) RunFault → Type 0
  IsCalledFor count put expected =
      (expected ≡ Ok put) ⊎ ((fault : RunFault) × (text : List ℕ) × (expected ≡ Err fault) × IsTextOf count fault text × (put ≡ put_of_text text))

  -- Answered: `put` was put. Refused: the text of a refusal was, or the line of out of memory. Little room: what was called for does not fit. No
  -- memory: memory ran out, and the line that says so does not fit; the sizes are none. A call has `count` scenarios.
  abbrev pub Ends : ℕ → Result (Buffers A C) RunFault → Status → Buffers A C → Buffers A C → S → Type 0
  Ends count expected Answered old new size = (put : Buffers A C) × (expected ≡ Ok put) × Puts sized put true old new size
  Ends count expected Refused old new size =
      (fault : RunFault) × (text : List ℕ) × IsTold fault expected × IsTextOf count fault text × Puts sized (put_of_text text) true old new size
  Ends count expected LittleRoom old new size = (put : Buffers A C) × IsCalledFor count put expected × Puts sized put false old new size
  Ends count expected NoMemory old new size = ((required : S) × Puts sized (put_of_text (fault_text Memory)) false old new required) × (size ≡ sized 0 0 0)

  abbrev pub EndsAs : ℕ → Result (Buffers A C) RunFault → ℕ → Buffers A C → Buffers A C → S → Type 0
  EndsAs count expected code old new size = (status : Status) × (code ≡ code_of status) × Ends count expected status old new size
