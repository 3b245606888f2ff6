-- The steps of a run: files are loaded in order and stand as they did; what each step gave, and what is written after it.
use Rattle.std.proofs.Common.{◌≡◌, ℕ, List, [], ◌∷◌, ◌++◌, map, Ok, Err, refl, sym, ap, ◌∙◌, append-nil, append_assoc, ◌<◌, ◌⊎◌, inl, inr, zero, suc, true}
use Rattle.std.proofs.Common.{false, length, Option, Some, None, IfSome, IsSome, Result, subst, arith, ◌+◌, ◌≤◌, take}
use Rattle.std.specs.Prelude.{slice_index_or, IfErr, IfOk, OnErr, OnOk}
use Rattle.std.proofs.lemmas.List.Elements.{Contains-append_left, Contains-push}
use Rattle.std.proofs.lemmas.Option.{IfSome_then}
use Rattle.toxicap.specs.{Bor, Appends, Held, RunFault, text_at, Asked, DiskFault, FileId, ReadFilesView, with_file, HasRead, Standing, StandingFile, id_of}
use Rattle.toxicap.specs.{FolderView, IsOutside, Leaves, capture_limit, WriteFailed, Output, SeenText, run_refusal, IsSeenOf, SeesAs, CountedView, reports_of}
use Rattle.toxicap.specs.{FilesAreLoadedInOrder, texts_from, InputsStand, IsCapture, IsElsewhere, IsInput, ReadsCapture, with_files, PrintsOf, reports_in}
use Rattle.toxicap.specs.{GoesOn, Step, UnlessMemory, WritesText, Written, WrittenSoFar, written}
use Rattle.toxicap.proofs.TextsTaken.{is_fault}

-- ---- named files, which are loaded in order

each_loaded : (held : Held) (earlier paths texts : List (List ℕ)) → map (text_at held) paths ≡ map Ok texts → texts_from held earlier paths ≡ Ok (earlier ++ texts)
unfolding texts_from
each_loaded held earlier [] [] are = ap Ok (sym (append-nil earlier))
each_loaded held earlier [] (text ∷ texts) are = absurd cc
each_loaded held earlier (path ∷ paths) [] are = absurd cc
each_loaded held earlier (path ∷ paths) (text ∷ texts) are =
    let first : text_at held path ≡ Ok text = cc in
    let rest : map (text_at held) paths ≡ map Ok texts = cc in
    rw first (each_loaded held (earlier ++ text ∷ []) paths texts rest ∙ ap Ok (append_assoc earlier (text ∷ []) texts))

first_told : (held : Held) (earlier paths texts : List (List ℕ)) (path : List ℕ) (after : List (List ℕ)) (fault : RunFault) → map (text_at held) paths ≡ map Ok texts
    → text_at held path ≡ Err fault → texts_from held earlier (paths ++ path ∷ after) ≡ Err fault
unfolding texts_from
first_told held earlier [] [] path after fault are is = rw is refl
first_told held earlier [] (text ∷ texts) path after fault are is = absurd cc
first_told held earlier (next ∷ paths) [] path after fault are is = absurd cc
first_told held earlier (next ∷ paths) (text ∷ texts) path after fault are is =
    let first : text_at held next ≡ Ok text = cc in
    let rest : map (text_at held) paths ≡ map Ok texts = cc in
    rw first (first_told held (earlier ++ text ∷ []) paths texts path after fault rest is)

pub files_are_loaded_in_order : FilesAreLoadedInOrder
files_are_loaded_in_order held paths texts are = (each_loaded held [] paths texts are, (λ path rest fault is. first_told held [] paths texts path rest fault are is))

-- ---- the files that were read stand as they did

-- a file that was read stays so
still_read : (read : ReadFilesView) (more : Result (Option FileId) DiskFault) (file : Option StandingFile) → HasRead read file → HasRead (with_file read more) file
still_read read more None has = absurd has
still_read read (Ok None) (Some file) has = has
still_read read (Ok (Some id)) (Some file) has = Contains-append_left read.ids (id ∷ []) file.id has
still_read read (Err fault) (Some file) has = has

one_read : (read : ReadFilesView) (file : Option StandingFile) → IsSome file → HasRead (with_file read (Ok (id_of file))) file
one_read read None some = let no : false ≡ true = some in absurd cc
one_read read (Some file) some = Contains-push read.ids file.id

module _ (stood : Standing) where
  still_with : (paths : List (List ℕ)) (read : ReadFilesView) (file : Option StandingFile) → HasRead read file → HasRead (with_files stood read paths) file
  still_with [] read file has = has
  still_with (path ∷ paths) read file has = still_with paths (with_file read (Ok (id_of (stood path)))) file (still_read read (Ok (id_of (stood path))) file has)

  each_read : (paths : List (List ℕ)) (read : ReadFilesView) (path : List ℕ) (k : ℕ) → k < length paths → slice_index_or paths k path ≡ path
      → IsSome (stood path) → HasRead (with_files stood read paths) (stood path)
  each_read [] read path k below is some = absurd (omega (arith, below))
  each_read (p ∷ paths) read path zero below is some =
      still_with paths (with_file read (Ok (id_of (stood p)))) (stood path)
      (subst (λ (q : List ℕ). HasRead (with_file read (Ok (id_of (stood q)))) (stood path)) (sym is) (one_read read (stood path) some))
  each_read (p ∷ paths) read path (suc k) below is some = each_read paths (with_file read (Ok (id_of (stood p)))) path k (omega (arith, below)) is some

  module _ (old new : ReadFilesView) (path : List ℕ) (some : IsSome (stood path)) where
    capture_read : (named : Option (Bor (List ℕ))) (input : Option (Option FileId))
        → ReadsCapture named input (Some stood) old new → IsCapture named input stood path → HasRead new (stood path)
    capture_read None None reads is = absurd cc
    capture_read None (Some told) reads is =
        let same : told ≡ id_of (stood path) = cc in
        subst (λ (r : ReadFilesView). HasRead r (stood path)) (sym (reads.1 ∙ ap (with_file old) (reads.2 ∙ ap Ok same))) (one_read old (stood path) some)
    capture_read (Some named) input reads is =
        subst (λ (r : ReadFilesView). HasRead r (stood path)) (sym reads)
        (subst (λ (q : List ℕ). HasRead (with_file old (Ok (id_of (stood q)))) (stood path)) (sym is) (one_read old (stood path) some))

    scenario_read : (named : Option (Bor (List ℕ))) (input : Option (Option FileId)) → ReadsCapture named input (Some stood) old new
        → HasRead old (stood path) → HasRead new (stood path)
    scenario_read None input reads has = subst (λ (r : ReadFilesView). HasRead r (stood path)) (sym reads.1) (still_read old reads.0 (stood path) has)
    scenario_read (Some named) input reads has =
        subst (λ (r : ReadFilesView). HasRead r (stood path)) (sym reads) (still_read old (Ok (id_of (stood named.now))) (stood path) has)

pub inputs_stand : (asked : Asked) (input : Option (Option FileId)) (out : Bor (List ℕ)) (folder : FolderView) (old new : Option Standing) (first some : ReadFilesView)
    → asked.out ≡ Some out → folder.path ≡ out.now
    → IfSome old (λ stood. some ≡ with_files stood first (map (λ named. named.now) asked.scenarios.items))
    → ReadsCapture asked.capture input old some folder.read → Leaves folder old new → InputsStand asked input old new
inputs_stand asked input out folder None new first some stored at files capture leaves = tt
inputs_stand asked input out folder (Some old) None first some stored at files capture leaves = absurd leaves
inputs_stand asked input out folder (Some old) (Some new) first some stored at files capture leaves = λ path is. leaves path (left path is)
  where
    by : (path : List ℕ) → IsInput asked input old path → HasRead folder.read (old path)
    by path (stands, inl named) =
        scenario_read old some folder.read path stands asked.capture input capture
        (subst (λ (r : ReadFilesView). HasRead r (old path)) (sym files)
        (each_read old (map (λ named. named.now) asked.scenarios.items) first path named.0 named.1 named.2 stands))
    by path (stands, inr is) = capture_read old some folder.read path stands asked.capture input capture is

    left : (path : List ℕ) → IsInput asked input old path ⊎ IsElsewhere asked.out path → HasRead folder.read (old path) ⊎ IsOutside folder.path path
    left path (inl is) = inl (by path is)
    left path (inr is) =
        inr (subst (λ (p : List ℕ). IsOutside p path) (sym at) (subst (λ (o : Option (Bor (List ℕ))). IsElsewhere o path) stored is))

-- ---- while files are stored

module _ (folder : FolderView) where
  pub Leaves-same : (old new : Option Standing) → new ≡ old → Leaves folder old new
  Leaves-same old new same = subst (Leaves folder old) (sym same) (by old)
    where
      by : (at : Option Standing) → Leaves folder at at
      by None = tt
      by (Some s) = λ path left. refl

  pub Leaves-then : (a b c : Option Standing) → Leaves folder a b → Leaves folder b c → Leaves folder a c
  Leaves-then None b c p q = tt
  Leaves-then (Some a) None c p q = absurd p
  Leaves-then (Some a) (Some b) None p q = absurd q
  Leaves-then (Some a) (Some b) (Some c) p q = λ path left.
      q path (subst (λ (file : Option StandingFile). HasRead folder.read file ⊎ IsOutside folder.path path) (sym (p path left)) left) ∙ p path left

-- ---- what each step gave, and what is written after them

-- a step of a run that ended well gave a value
pub went_on : {A B : Type 0} (Gives : Result A RunFault → Type 0) (end : B) (AsBefore : Type 0) (Next : A → Type 0) → Step Gives (Ok end) AsBefore Next
    → (x : A) × Gives (Ok x) × Next x
went_on {A} Gives end AsBefore Next step = on step.0 step.1 step.2
  where
    on : (given : Result A RunFault) → Gives given → GoesOn given (Ok end) AsBefore Next → (x : A) × Gives (Ok x) × Next x
    on (Ok x) gives next = (x, gives, next)
    on (Err fault) gives next = let no : Ok end ≡ Err fault = next.0 in absurd cc

pub then_seen : {B : Type 0} (Gives : Result (List ℕ) RunFault → Type 0) (outcome : Result B RunFault) (AsBefore : Type 0) (Next : List ℕ → Type 0) (seen : SeenText)
    (loaded : Result (List ℕ) RunFault) → SeesAs (Ok seen) loaded → IfOk loaded (λ text. length text ≤ capture_limit) → Gives loaded
    → ((text : List ℕ) → length text ≤ capture_limit → IsSeenOf seen text → Next text) → Step Gives outcome AsBefore Next
then_seen Gives outcome AsBefore Next seen (Ok text) sees within gives next = (Ok text, gives, next text within sees)
then_seen Gives outcome AsBefore Next seen (Err cause) sees within gives next = absurd sees

pub then_unseen : {B : Type 0} (Gives : Result (List ℕ) RunFault → Type 0) (AsBefore : Type 0) (Next : List ℕ → Type 0) (fault : RunFault) (loaded : Result (List ℕ) RunFault)
    → SeesAs (Err fault) loaded → Gives loaded → AsBefore → Step {B = B} Gives (Err fault) AsBefore Next
then_unseen Gives AsBefore Next fault (Ok text) sees gives as_before = absurd sees
then_unseen Gives AsBefore Next fault (Err cause) sees gives as_before = (Err cause, gives, (ap Err sees, as_before))

pub writes : {W : Type 0} (contents : W → Option (List ℕ)) (w x : CountedView W) (result : Result (Unit {0}) RunFault) (text : List ℕ)
    → OnOk result (Appends (contents w.inner) (contents x.inner) text) → OnOk result (x.failed ≡ w.failed) → IfErr result (λ fault. fault ≡ WriteFailed)
    → OnErr result (x.failed ≡ w.failed + 1) → OnErr result ((written : ℕ) × (written < length text) × Appends (contents w.inner) (contents x.inner) (take written text))
    → WritesText result text (written contents w x)
writes contents w x (Ok u) text whole none refused one first = (whole, none)
writes contents w x (Err fault) text whole none refused one first = rw refused (first.0, first.1, (first.2, one))

pub so_far : (result : Result (Unit {0}) RunFault) (text : List ℕ) (w : Written) → WritesText result text w → WrittenSoFar text w
so_far (Ok u) text w is = inl is
so_far (Err WriteFailed) text w is = inr is
so_far (Err _) text w is = absurd is

pub prints_none : (expected : Result (List Output) RunFault) (w : Written) (fault : RunFault)
    → UnlessMemory (reports_in expected) (Err fault) → w.NothingWritten → PrintsOf (Err fault) expected w
prints_none expected w fault is unwritten = (Err fault, IfSome_then (run_refusal fault) is (λ refused e. is_fault expected refused e), (refl, unwritten))

pub prints_made : (expected : Result (List Output) RunFault) (w : Written) (reports : List ℕ) → reports_in expected ≡ Ok reports → (result : Result (Unit {0}) RunFault)
    → WritesText result reports w → PrintsOf result expected w
prints_made (Ok outputs) w reports is result writes =
    let same : reports ≡ reports_of outputs = cc in
    (Ok outputs, refl, subst (λ text. WritesText result text w) same writes)
prints_made (Err fault) w reports is result writes = absurd cc
