-- How a refusal is told in a buffer.
use Rattle.std.specs.Prelude.{◌≡◌, ◌⊎◌, ◌<◌, ℕ, Bool, true, false, List, ◌∷◌, ◌++◌, length, Some}
use Rattle.run_files.specs.declared.error.RunFault.{RunFault}
use Rattle.run_files.specs.declared.error.RunFault.TheVariants.{Memory}
use Rattle.run_files.specs.RunFault.{fault_text, run_refusal}
use Rattle.hints.specs.Hints.{IsAbout, is_of_arguments, subject_in_call}
use Rattle.toxicap_c.specs.declared.statuses.Status.{Status}
use Rattle.toxicap_c.specs.declared.statuses.Status.TheVariants.{Answered, Refused, LittleRoom, NoMemory}
use Rattle.toxicap_c.specs.Buffers.{PutsText}

-- a line, and after a line feed a hint in one line, which is about this subject
abbrev pub IsHinted : Bool → List ℕ → List ℕ → List ℕ → Type 0
IsHinted true subject line text = (hint : List ℕ) × IsAbout subject hint × (text ≡ line ++ 10 ∷ hint)
IsHinted false subject line text = text ≡ line

-- the text of a refusal of a call with this number of scenarios
abbrev pub IsTextOf : ℕ → RunFault → List ℕ → Type 0
IsTextOf count fault text = IsHinted (is_of_arguments fault) (subject_in_call fault count) (fault_text fault) text

-- Refused: the text of the fault or of out of memory is put. Little room: that of the fault does not fit. No memory: that of out of memory does
-- not. The number is the length of what is put or does not fit, or 0 without memory.
abbrev pub TellsIn : ℕ → RunFault → Status → List ℕ → List ℕ → ℕ → Type 0
TellsIn count fault Answered old new len = ⊥
TellsIn count fault Refused old new len =
    (told : RunFault) × (text : List ℕ) × ((told ≡ Memory) ⊎ (told ≡ fault)) × IsTextOf count told text × PutsText text true old new × (len ≡ length text)
TellsIn count fault LittleRoom old new len =
    (text : List ℕ) × (run_refusal fault ≡ Some fault) × IsTextOf count fault text × PutsText text false old new × (len ≡ length text)
TellsIn count fault NoMemory old new len = PutsText (fault_text Memory) false old new × (len ≡ 0)
