-- How a call ends, and the number that it returns for it.
use Rattle.std.specs.Prelude.{ℕ, Bool, true, false}
use Rattle.toxicap_c.specs.declared.statuses.Status.{Status}
use Rattle.toxicap_c.specs.declared.statuses.Status.TheVariants.{Answered, Refused, LittleRoom, NoMemory}

abbrev pub code_of : Status → ℕ
code_of Answered = 0
code_of Refused = 1
code_of LittleRoom = 2
code_of NoMemory = 3

abbrev pub status_of : Bool → Status
status_of true = Answered
status_of false = LittleRoom
