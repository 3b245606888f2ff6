-- Where a refusal stands, and steps that may refuse, one after another.
use Rattle.std.specs.Prelude.{ℕ, Bool, true, false, Option, Some, None, Result, Ok, Err}
use Rattle.scenarios.specs.declared.error.Cause.{Cause}
use Rattle.scenarios.specs.declared.error.Refusal.{Refusal}
use Rattle.scenarios.specs.declared.error.ScenarioFault.{ScenarioFault}
use Rattle.scenarios.specs.declared.error.ScenarioFault.TheVariants.{Refused, Memory}

abbrev pub of_text : Cause → Refusal
of_text cause = record { cause = cause; proxy = None; toxic = None }

abbrev pub of_proxy : ℕ → Cause → Refusal
of_proxy proxy cause = record { cause = cause; proxy = Some proxy; toxic = None }

abbrev pub of_toxic : ℕ → ℕ → Cause → Refusal
of_toxic proxy toxic cause = record { cause = cause; proxy = Some proxy; toxic = Some toxic }

-- what a fault refuses; out of memory is no refusal
abbrev pub scenario_refusal : ScenarioFault → Option Refusal
scenario_refusal (Refused r) = Some r
scenario_refusal (Memory e) = None

-- the next step with a value, or why there is none
abbrev pub with : {A B E : Type 0} → Option A → E → (A → Result B E) → Result B E
with None error next = Err error
with (Some x) error next = next x

-- the next step with what the last one gave, or its error
abbrev pub and_then : {A B E : Type 0} → Result A E → (A → Result B E) → Result B E
and_then (Ok x) next = next x
and_then (Err error) next = Err error

-- the next step, unless a test holds
abbrev pub unless : {B E : Type 0} → Bool → E → Result B E → Result B E
unless true error next = Err error
unless false error next = next

-- a refusal at a place, for the cause that a step gave
abbrev pub at_place : {A : Type 0} → (Cause → Refusal) → Result A Cause → Result A Refusal
at_place place (Ok x) = Ok x
at_place place (Err cause) = Err (place cause)
