-- Paths of drafts: the last name of each begins with `toxicap.unfinished`; or it is the empty path, at which no file can be.
use Rattle.std.specs.Prelude.{◌≡◌, ◌⊎◌, ℕ, Bool, true, false, List, [], ◌∷◌, ◌++◌, codes, nat_eq, ◌==◌, if◌then◌else◌}
use Rattle.std.specs.List.{list_any, starts_with}

abbrev pub slash : ℕ
slash = 47

abbrev pub has_slash : List ℕ → Bool
has_slash path = list_any (λ c. c == slash) path

abbrev pub path_in : List ℕ → List ℕ → List ℕ
path_in folder name = folder ++ slash ∷ name

-- what comes after the last slash of a path
abbrev pub last_name : List ℕ → List ℕ
last_name [] = []
last_name (c ∷ path) = if has_slash path then last_name path else (if c == slash then path else c ∷ path)

abbrev pub unfinished : List ℕ
unfinished = codes "toxicap.unfinished"

abbrev pub is_draft_name : List ℕ → Bool
is_draft_name name = starts_with nat_eq name unfinished

abbrev pub IsDraftPath : List ℕ → Type 0
IsDraftPath path = (path ≡ []) ⊎ (is_draft_name (last_name path) ≡ true)

-- the path of a file in a folder is that of a draft exactly if its name is a draft's
abbrev pub DraftsAreNamed : Type 0
DraftsAreNamed = (folder name : List ℕ) → has_slash name ≡ false
    → (is_draft_name name ≡ true → IsDraftPath (path_in folder name)) × (IsDraftPath (path_in folder name) → is_draft_name name ≡ true)
