-- Files that a run reads: they stand as they did when it ends.
use Rattle.std.specs.Prelude.{◌≡◌, ◌⊎◌, ⊤, ℕ, List, [], ◌∷◌, Contains, map, Option, Some, None, IfSome, IsSome, Result, Ok, Err}
use Rattle.toxicap.specs.Words.{Bor, Asked, Stop, DiskFault, FileId, ReadFilesView, with_file, Standing, id_of, RunFault, IsOutside}

-- the files at some paths were read too
abbrev pub with_files : Standing → ReadFilesView → List (List ℕ) → ReadFilesView
with_files stood read [] = read
with_files stood read (path ∷ paths) = with_files stood (with_file read (Ok (id_of (stood path)))) paths

-- the capture was read too: the file at its path, or that of standard input
abbrev pub ReadsCapture : Option (Bor (List ℕ)) → Option (Option FileId) → Option Standing → ReadFilesView → ReadFilesView → Type 0
ReadsCapture None input standing old new =
    (id : Result (Option FileId) DiskFault) × (new ≡ with_file old id) × IfSome input (λ told. id ≡ Ok told)
ReadsCapture (Some path) input standing old new = IfSome standing (λ stood. new ≡ with_file old (Ok (id_of (stood path.now))))

-- The file at this path is the capture: it is named so, or, if none is named, it is the file of standard input.
abbrev pub IsCapture : Option (Bor (List ℕ)) → Option (Option FileId) → Standing → List ℕ → Type 0
IsCapture None input stood path = input ≡ Some (id_of (stood path))
IsCapture (Some named) input stood path = named.now ≡ path

-- a file stands at this path, and it is a scenario or the capture
abbrev pub IsInput : Asked → Option (Option FileId) → Standing → List ℕ → Type 0
IsInput asked input stood path =
    IsSome (stood path) × (Contains (map (λ named. named.now) asked.scenarios.items) path ⊎ IsCapture asked.capture input stood path)

abbrev pub IsElsewhere : Option (Bor (List ℕ)) → List ℕ → Type 0
IsElsewhere None path = Unit {0}
IsElsewhere (Some folder) path = IsOutside folder.now path

-- At each path the same file stands in the end, or none as before, except where outputs are stored; and each input stands wherever it is. If the disk
-- does not tell what stands, nothing is claimed.
abbrev pub InputsStand : Asked → Option (Option FileId) → Option Standing → Option Standing → Type 0
InputsStand asked input None new = ⊤
InputsStand asked input (Some old) None = ⊥
InputsStand asked input (Some old) (Some new) = (path : List ℕ) → IsInput asked input old path ⊎ IsElsewhere asked.out path → new path ≡ old path

-- the same of a whole run; without a command line that asks for one nothing is touched
abbrev pub StandAfter : Result Asked Stop → Option (Option FileId) → Option Standing → Option Standing → Type 0
StandAfter (Ok asked) input old new = InputsStand asked input old new
StandAfter (Err stop) input old new = new ≡ old

-- the folder of outputs was held, and then swept of drafts, except of files that were read
abbrev pub SweptFor : Option (Bor (List ℕ)) → (List ℕ → ReadFilesView → Type 0) → Type 0
SweptFor None Swept = Unit {0}
SweptFor (Some folder) Swept = (read : ReadFilesView) × Swept folder.now read

-- the same after a whole run that ended well
abbrev pub SweptAfter : {A : Type 0} → Result Asked Stop → Result A RunFault → (List ℕ → ReadFilesView → Type 0) → Type 0
SweptAfter (Ok asked) (Ok _) Swept = SweptFor asked.out Swept
SweptAfter _ _ Swept = ⊤
