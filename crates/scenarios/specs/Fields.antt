-- Fields of JSON objects. A null field is absent, and a value that is no object has no fields.
use Rattle.std.specs.Prelude.{ℕ, List, [], Bool, true, Option, Some, None, is_some, option_and_then}
use Rattle.serde_json.specs.Data.{Data, null, boolean, number, string, array, object, Items, no_items}
use Rattle.serde_json.specs.Find.{get, as_str, as_bool, as_array, as_object, as_number, as_u64}

-- the next step with a value, if there is one
infixl 10 ◌>>=◌
abbrev pub ◌>>=◌ : {A B : Type 0} → Option A → (A → Option B) → Option B
o >>= next = option_and_then next o

abbrev pub unless_null : Data → Option Data
unless_null null = None
unless_null (boolean b) = Some (boolean b)
unless_null (number n) = Some (number n)
unless_null (string s) = Some (string s)
unless_null (array ds) = Some (array ds)
unless_null (object ms) = Some (object ms)

abbrev pub field : List ℕ → Data → Option Data
field name d = option_and_then unless_null (get name d)

-- what is read of a field, or the value for one that is absent
abbrev pub absent_as : {A : Type 0} → A → (Data → A) → Option Data → A
absent_as absent read None = absent
absent_as absent read (Some d) = read d

abbrev pub required_text : List ℕ → Data → Option (List ℕ)
required_text name d = option_and_then as_str (field name d)

abbrev pub is_text_or_absent : List ℕ → Data → Bool
is_text_or_absent name d = absent_as true (λ found. is_some (as_str found)) (field name d)

abbrev pub is_object_or_absent : List ℕ → Data → Bool
is_object_or_absent name d = absent_as true (λ found. is_some (as_object found)) (field name d)

-- a text, empty if it is absent
abbrev pub optional_text : List ℕ → Data → Option (List ℕ)
optional_text name d = absent_as (Some []) as_str (field name d)

-- a whole number: one that the tree holds as an unsigned integer
abbrev pub whole : Data → Option ℕ
whole d = option_and_then as_u64 (as_number d)

abbrev pub optional_whole : ℕ → List ℕ → Data → Option ℕ
optional_whole absent name d = absent_as (Some absent) whole (field name d)

-- a flag, true if it is absent
abbrev pub optional_flag : List ℕ → Data → Option Bool
optional_flag name d = absent_as (Some true) as_bool (field name d)

abbrev pub optional_list : List ℕ → Data → Option Items
optional_list name d = absent_as (Some no_items) as_array (field name d)
