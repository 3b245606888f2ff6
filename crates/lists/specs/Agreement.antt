-- How an answer agrees with a definition that is a value or a refusal.
use Rattle.std.specs.Prelude.{◌≡◌, Option, Some, None, IfSome, Result, Ok, Err, IsOk}

-- The definition that a fault fits: if it refuses something, that refusal; if it is lack of memory, any value.
abbrev pub Refuses : {B G : Type 0} → Option G → Result B G → Type 0
Refuses (Some fault) expected = expected ≡ Err fault
Refuses None expected = IsOk expected

-- An answer gives the value, or refuses what the definition refuses. Lack of memory comes only if the definition is a value. `refusal` gives what a
-- fault refuses, None for lack of memory; `view` gives what contracts see of a value.
abbrev pub Agrees : {A B F G : Type 0} → (F → Option G) → (A → B) → Result A F → Result B G → Type 0
Agrees refusal view (Ok x) expected = expected ≡ Ok (view x)
Agrees refusal view (Err fault) expected = Refuses (refusal fault) expected

-- the same of a call that never lacks memory
abbrev pub AgreesWithoutMemory : {A B F : Type 0} → (F → Option F) → (A → B) → Result A F → Result B F → Type 0
AgreesWithoutMemory refusal view (Ok x) expected = expected ≡ Ok (view x)
AgreesWithoutMemory refusal view (Err fault) expected = (refusal fault ≡ Some fault) × (expected ≡ Err fault)

-- the same of a call that may lack memory even if the definition is a refusal
abbrev pub AgreesUnlessMemory : {A B F G : Type 0} → (F → Option G) → (A → B) → Result A F → Result B G → Type 0
AgreesUnlessMemory refusal view (Ok x) expected = expected ≡ Ok (view x)
AgreesUnlessMemory refusal view (Err fault) expected = IfSome (refusal fault) (λ refused. expected ≡ Err refused)
