-- Outputs that are stored: drafts that are ready, files that are stored one output after another, and how that ends.
use Rattle.std.proofs.Common.{◌≡◌, ◌≢◌, ◌<◌, ◌≤◌, ◌+◌, ◌*◌, ◌^◌, ℕ, zero, suc, List, [], ◌∷◌, length, map, take, drop, get_or, refl, sym, ap, ap₂, subst, ◌∙◌}
use Rattle.std.proofs.Common.{arith, ◌++◌, Option, Some, None, Err, append_assoc, take-add, Result, Ok, IfErr, append-nil}
use Rattle.std.proofs.lemmas.List.{drop_more, get_or_default, get_or-drop, get_or-take, length-drop, length-map, length-take, length-take-le, map-append}
use Rattle.std.proofs.lemmas.List.{take-take, take-map}
use Rattle.std.proofs.lemmas.List.Elements.{All-cons, All-nil}
use Rattle.std.proofs.lemmas.List.Kept.{AllPairs-cons}
use Rattle.std.proofs.Math.Seq.{take-length}
use Rattle.toxicap.specs.{All, AllPairs, Output, draft_path, DraftPathsDiffer, no_output, PlacedOutput, placed_output, placed_from, paths_in, StoreFault}
use Rattle.toxicap.specs.{run_fault_of_storing, run_refusal, History, PublishedFile, LeavesWhole, Publishes, PublishingLeavesWhole, in_folder, CommitsIn}
use Rattle.toxicap.specs.{failed_stores, StoredFile, files_from, Stores, stored_before, Agrees, RunFault, Memory, ShelfFailed, StoresFiles, StoresIn}
use Rattle.toxicap.specs.{disk_histories, IsOfText, GoesOn, Step, UnlessMemory}
use Rattle.toxicap.proofs.TextsTaken.{agrees_unless_memory}
use Rattle.run_files.specs.declared.error.StoreFault.TheVariants as store

-- ---- drafts that are ready: of some outputs in a row, from a number on, each at its place

abbrev pub outputs_in : List PlacedOutput → List Output
outputs_in placed = map (λ p. p.output) placed

-- one output is the first of those from its number on
pub alone : (all : List Output) (number : ℕ) → number < length all → get_or all number no_output ∷ [] ≡ take 1 (drop number all)
alone all number within = sym (ap (take 1) (drop_more all number no_output within))

-- the first of them, and the others
pub record TakesFirst (all : List Output) (number : ℕ) (first : Output) (rest : List Output) : Type 0 where
  pub below : number < length all
  pub is : first ≡ get_or all number no_output
  pub left : rest ≡ take (length rest) (drop (number + 1) all)

pub takes_first : (all ready rest : List Output) (number : ℕ) (first : Output) → ready ≡ take (length ready) (drop number all) → ready ≡ first ∷ rest → TakesFirst all number first rest
takes_first all ready rest number first are is =
    let own : Output = get_or all number no_output in
    let split : first ∷ rest ≡ take (length (first ∷ rest)) (drop number all) = subst (λ (xs : List Output). xs ≡ take (length xs) (drop number all)) is are in
    let within : number < length all = omega (arith, ap length split, length-take (length (first ∷ rest)) (drop number all), length-drop number all) in
    let both : first ∷ rest ≡ own ∷ take (length rest) (drop (number + 1) all) = split ∙ ap (take (length (first ∷ rest))) (drop_more all number no_output within) in
    let one : first ≡ own = cc in
    let others : rest ≡ take (length rest) (drop (number + 1) all) = cc in
    record { below = within; is = one; left = others }

-- ---- outputs in a row, from a number on

module _ (all : List Output) (first count : ℕ) (within : first + count ≤ length all) where
  pub length-some : length (take count (drop first all)) ≡ count
  length-some = length-take-le count (drop first all) (omega (arith, length-drop first all, within))

  pub one_of : (k : ℕ) (other : Output) → k < count → get_or all (first + k) no_output ≡ get_or (take count (drop first all)) k other
  one_of k other below =
      get_or_default all (first + k) no_output other (omega (arith, within, below))
      ∙ sym (get_or-drop first all k other) ∙ sym (get_or-take count (drop first all) k other below)

-- ---- at their places

-- an output whose drafts have the paths of a place
pub at_place : (folder : List ℕ) (place : ℕ) (output : Output) (capture report : List ℕ) → capture ≡ draft_path folder (2 * place) → report ≡ draft_path folder (2 * place + 1)
    → (let p : PlacedOutput = record { output = output; capture_path = capture; report_path = report } in p) ≡ placed_output folder place output
at_place folder place output capture report is_capture is_report =
    ap₂ (λ (c r : List ℕ). let p : PlacedOutput = record { output = output; capture_path = c; report_path = r } in p) is_capture is_report

pub outputs_placed : (folder : List ℕ) (place : ℕ) (outputs : List Output) → outputs_in (placed_from folder place outputs) ≡ outputs
outputs_placed folder place [] = refl
outputs_placed folder place (o ∷ outputs) = ap (λ (xs : List Output). o ∷ xs) (outputs_placed folder (place + 1) outputs)

-- without their places they are as many
pub ready_outputs : (folder : List ℕ) (all : List Output) (number : ℕ) (drafts : List PlacedOutput) → drafts ≡ placed_from folder 0 (take (length drafts) (drop number all))
    → outputs_in drafts ≡ take (length (outputs_in drafts)) (drop number all)
ready_outputs folder all number drafts are =
    ap outputs_in are ∙ outputs_placed folder 0 (take (length drafts) (drop number all))
    ∙ ap (λ n. take n (drop number all)) (sym (length-map drafts (λ (p : PlacedOutput). p.output)))

-- the first n of them
pub first_placed : (folder : List ℕ) (place n : ℕ) (outputs : List Output) (drafts : List PlacedOutput)
    → drafts ≡ placed_from folder place (take (length drafts) outputs)
    → take n drafts ≡ placed_from folder place (take (length (take n drafts)) outputs)
first_placed folder place zero outputs drafts are = refl
first_placed folder place (suc n) outputs [] are = refl
first_placed folder place (suc n) [] (d ∷ drafts) are = absurd (omega (arith, ap length are))
first_placed folder place (suc n) (o ∷ outputs) (d ∷ drafts) are =
    let one : d ≡ placed_output folder place o = cc in
    let others : drafts ≡ placed_from folder (place + 1) (take (length drafts) outputs) = cc in
    ap₂ (λ (p : PlacedOutput) (ps : List PlacedOutput). p ∷ ps) one (first_placed folder (place + 1) n outputs drafts others)

pub length-placed : (folder : List ℕ) (place : ℕ) (outputs : List Output) → length (placed_from folder place outputs) ≡ length outputs
length-placed folder place [] = refl
length-placed folder place (o ∷ outputs) = omega (arith, length-placed folder (place + 1) outputs)

pub one_placed : (folder : List ℕ) (place : ℕ) (outputs : List Output) (k : ℕ) (other : PlacedOutput) → k < length outputs
    → placed_output folder (place + k) (get_or outputs k no_output) ≡ get_or (placed_from folder place outputs) k other
one_placed folder place [] k other below = absurd (omega (arith, below))
one_placed folder place (o ∷ outputs) zero other below = let here : place + 0 ≡ place = omega arith in ap (λ n. placed_output folder n o) here
one_placed folder place (o ∷ outputs) (suc k) other below =
    let on : place + suc k ≡ place + 1 + k = omega arith in
    ap (λ n. placed_output folder n (get_or outputs k no_output)) on ∙ one_placed folder (place + 1) outputs k other (omega (arith, below))

pub placed_below : (all : List Output) (first count : ℕ) → first + count ≤ length all → (folder : List ℕ) (place k : ℕ)
    → k < length (placed_from folder place (take count (drop first all))) → k < count
placed_below all first count within folder place k is =
    omega (arith, is, length-placed folder place (take count (drop first all)), length-some all first count within)

-- ---- no two at one path

module _ (differ : DraftPathsDiffer) (folder : List ℕ) (some : 0 < length folder) where
  unlike : (one other : ℕ) → one < other → other < 2 ^ 64 → draft_path folder one ≢ draft_path folder other
  unlike one other less within = λ same. absurd (omega (arith, differ folder one other some (omega (arith, less, within)) within same, less))

  unlike_later : (one place : ℕ) (outputs : List Output) → one < 2 * place → 2 * (place + length outputs) < 2 ^ 64
      → All (λ path. draft_path folder one ≢ path) (paths_in (placed_from folder place outputs))
  unlike_later one place [] less within = All-nil (λ path. draft_path folder one ≢ path)
  unlike_later one place (o ∷ outputs) less within =
      let P : List ℕ → Type 0 = λ path. draft_path folder one ≢ path in
      let report : List ℕ = draft_path folder (2 * place + 1) in
      let others : List (List ℕ) = paths_in (placed_from folder (place + 1) outputs) in
      let later = unlike_later one (place + 1) outputs (omega (arith, less)) (omega (arith, within)) in
      All-cons P (draft_path folder (2 * place)) (report ∷ others) (unlike one (2 * place) less (omega (arith, within)))
      (All-cons P report others (unlike one (2 * place + 1) (omega (arith, less)) (omega (arith, within))) later)

  all_unlike : (place : ℕ) (outputs : List Output) → 2 * (place + length outputs) < 2 ^ 64 → AllPairs (λ one other. one ≢ other) (paths_in (placed_from folder place outputs))
  all_unlike place [] within = λ i j d less inside. absurd (omega (arith, inside))
  all_unlike place (o ∷ outputs) within =
      let R : List ℕ → List ℕ → Type 0 = λ one other. one ≢ other in
      let capture : List ℕ = draft_path folder (2 * place) in
      let report : List ℕ = draft_path folder (2 * place + 1) in
      let others : List (List ℕ) = paths_in (placed_from folder (place + 1) outputs) in
      let after_capture = unlike_later (2 * place) (place + 1) outputs (omega arith) (omega (arith, within)) in
      let after_report = unlike_later (2 * place + 1) (place + 1) outputs (omega arith) (omega (arith, within)) in
      AllPairs-cons R capture (report ∷ others) (All-cons (R capture) report others (unlike (2 * place) (2 * place + 1) (omega arith) (omega (arith, within))) after_capture)
      (AllPairs-cons R report others after_report (all_unlike (place + 1) outputs (omega (arith, within))))

  -- drafts of a few outputs
  pub apart : (all : List Output) (number : ℕ) (drafts : List PlacedOutput) → length all < 2 ^ 32 → drafts ≡ placed_from folder 0 (take (length drafts) (drop number all))
      → AllPairs (λ one other. one ≢ other) (paths_in drafts)
  apart all number drafts few are =
      let outputs : List Output = take (length drafts) (drop number all) in
      subst (λ (ps : List PlacedOutput). AllPairs (λ one other. one ≢ other) (paths_in ps)) (sym are)
      (all_unlike 0 outputs (omega (arith, few, length-take (length drafts) (drop number all), length-drop number all)))

-- ---- the files of outputs, stored one output after another

pub length-files_from : (n : ℕ) (xs : List Output) → length (files_from n xs) ≡ 2 * length xs
length-files_from n [] = refl
length-files_from n (x ∷ xs) = omega (arith, length-files_from (n + 1) xs)

-- the two files of an output, after those of the outputs before it
files_at : (n i : ℕ) (xs : List Output) → i < length xs → take 2 (drop (2 * i) (files_from n xs)) ≡ files_from (n + i) (get_or xs i no_output ∷ [])
files_at n i [] within = absurd (omega (arith, within))
files_at n zero (x ∷ xs) within = let none : n ≡ n + 0 = omega arith in ap (λ k. files_from k (x ∷ [])) none
files_at n (suc i) (x ∷ xs) within =
    let further : 2 * suc i ≡ suc (suc (2 * i)) = omega arith in
    let on : n + 1 + i ≡ n + suc i = omega arith in
    ap (λ k. take 2 (drop k (files_from n (x ∷ xs)))) further ∙ files_at (n + 1) i xs (omega (arith, within)) ∙ ap (λ k. files_from k (get_or xs i no_output ∷ [])) on

-- some files, and then others
commits_both : (folder : List ℕ) (a b c : Option History) (xs ys : List StoredFile) → CommitsIn folder a b xs → CommitsIn folder b c ys → CommitsIn folder a c (xs ++ ys)
commits_both folder None b c xs ys first next = tt
commits_both folder (Some a) b c xs ys first next =
    subst (λ o. CommitsIn folder o c ys) first next
    ∙ ap (λ (published : List PublishedFile). Some (record { first = a.first; published = published }))
    (append_assoc {A = PublishedFile} a.published (map (in_folder folder) xs) (map (in_folder folder) ys) ∙ ap (λ (zs : List PublishedFile). a.published ++ zs) (sym (map-append (in_folder folder) xs ys)))

module _ (folder : List ℕ) (all : List Output) (number : ℕ) (this : Output) (below : number < length all) (is : this ≡ get_or all number no_output)
    (had a b : Option History) (committed : CommitsIn folder had a (take (2 * number) (files_from 0 all))) where
  committed_part : (stored : ℕ) → stored ≤ 2 → CommitsIn folder a b (take stored (files_from number (this ∷ []))) → CommitsIn folder had b (take (2 * number + stored) (files_from 0 all))
  committed_part stored few one =
      let rest : List StoredFile = drop (2 * number) (files_from 0 all) in
      let zero_on : 0 + number ≡ number = omega arith in
      let next : take 2 rest ≡ files_from number (this ∷ []) = files_at 0 number all below ∙ ap₂ (λ k (o : Output). files_from k (o ∷ [])) zero_on (sym is) in
      let both = take-add (2 * number) stored (files_from 0 all)
      ∙ ap (λ (fs : List StoredFile). take (2 * number) (files_from 0 all) ++ fs) (sym (take-take stored 2 rest few) ∙ ap (take stored) next) in
      subst (λ (fs : List StoredFile). CommitsIn folder had b fs) (sym both) (commits_both folder had a b _ _ committed one)

  pub committed_more : CommitsIn folder a b (files_from number (this ∷ [])) → CommitsIn folder had b (take (2 * (number + 1)) (files_from 0 all))
  committed_more one =
      let two : 2 * number + 2 ≡ 2 * (number + 1) = omega arith in
      subst (λ n. CommitsIn folder had b (take n (files_from 0 all))) two (committed_part 2 (omega arith) one)

  -- storing stopped among them
  pub stops_at : (fault : StoreFault) → Stores (2 * number) (files_from number (this ∷ [])) (CommitsIn folder a b) (Err fault)
      → StoresFiles (Err (run_fault_of_storing fault)) (files_from 0 all) (CommitsIn folder had b)
  stops_at (store.ShelfFailed after) stores =
      let inside : 2 * number + stores.0 < length (files_from 0 all) = omega (arith, length-files_from 0 all, stores.2, below) in
      let at : after ≡ 2 * number + stores.0 = stores.1 in
      rw at (inside, committed_part stores.0 (omega (arith, stores.2)) stores.3)
  stops_at (store.Memory after) stores = (2 * number + stores.0, omega (arith, length-files_from 0 all, stores.2, below), committed_part stores.0 (omega (arith, stores.2)) stores.3)

-- ---- how storing ends

pub nothing_committed : (folder : List ℕ) (had : Option History) → CommitsIn folder had had []
nothing_committed folder None = tt
nothing_committed folder (Some h) = ap (λ (published : List PublishedFile). Some (record { first = h.first; published = published })) (sym (append-nil h.published))

-- memory ran out before the first file was stored
pub none_stored : (folder : List ℕ) (had : Option History) (files : List StoredFile) → StoresFiles (Err Memory) files (CommitsIn folder had had)
none_stored folder had files = (0, omega arith, nothing_committed folder had)

-- the same where the disk's history is the same
still_none : (folder : List ℕ) (had now : Option History) → now ≡ had → CommitsIn folder had now []
still_none folder had now same = subst (λ h. CommitsIn folder had h []) (sym same) (nothing_committed folder had)

-- nor where the folder could not be held for the files of some outputs
some_files : (outputs : List Output) → 0 < length outputs → 0 < length (files_from 0 outputs)
some_files [] some = absurd (omega (arith, some))
some_files (o ∷ outputs) some = omega arith

pub not_held : (folder : List ℕ) (outputs : List Output) (fault : StoreFault) (had now : Option History) → now ≡ had
    → (stored_before fault ≡ 0) × (0 < length outputs) → StoresFiles (Err (run_fault_of_storing fault)) (files_from 0 outputs) (CommitsIn folder had now)
not_held folder outputs (store.ShelfFailed after) had now same first =
    let none : after ≡ 0 = first.0 in rw none (some_files outputs first.1, still_none folder had now same)
not_held folder outputs (store.Memory after) had now same first = (0, omega arith, still_none folder had now same)

-- a disk that does not tell what was committed claims nothing
untold : (folder : List ℕ) (had now : Option History) (files some : List StoredFile) → CommitsIn folder had now files → now ≡ None → CommitsIn folder had now some
untold folder None now files some committed is = tt
untold folder (Some h) now files some committed is = absurd cc

-- one of the files was replaced after it was committed
pub replaced : (folder : List ℕ) (files some : List StoredFile) (fault : StoreFault) (had now : Option History) → CommitsIn folder had now some
    → (stored_before fault < length files) × (now ≡ None) → StoresFiles (Err (run_fault_of_storing fault)) files (CommitsIn folder had now)
replaced folder files some (store.ShelfFailed after) had now committed is = (is.0, untold folder had now some (take after files) committed is.1)
replaced folder files some (store.Memory after) had now committed is = (0, omega arith, untold folder had now some [] committed is.1)

-- no call of the disk has failed where texts or a capture are refused
pub refused_faults : (folder : List ℕ) (fault : RunFault) (expected : Result (List Output) RunFault) → IfErr expected IsOfText
    → UnlessMemory expected (Err fault) → failed_stores folder (Err fault) ≡ 0
refused_faults folder (ShelfFailed after) expected own is = absurd (subst (λ w. IfErr w IsOfText) is own)
refused_faults folder fault expected own is = refl

module _ (whole : PublishingLeavesWhole) (folder : List ℕ) (old new : Option History) where
  first_part : (files : List StoredFile) (n : ℕ) → CommitsIn folder old new (take n files) → LeavesWhole old new (map (in_folder folder) files)
  first_part files n committed = whole old new (map (in_folder folder) files) n (subst (Publishes old new) (sym (take-map (in_folder folder) n files)) committed)

  files_whole : (outcome : Result (Unit {0}) RunFault) (files : List StoredFile) → StoresFiles outcome files (CommitsIn folder old new)
      → LeavesWhole old new (map (in_folder folder) files)
  files_whole (Ok u) files committed = first_part files (length files) (subst (CommitsIn folder old new) (sym (take-length files)) committed)
  files_whole (Err (ShelfFailed after)) files stores = first_part files after stores.1
  files_whole (Err Memory) files stores = first_part files stores.0 stores.2
  files_whole (Err fault) files stores = absurd stores

  pub stores_in : (outcome : Result (Unit {0}) RunFault) (expected : Result (List Output) RunFault)
      → Step (λ (made : Result (List Output) RunFault). Agrees run_refusal (λ (outputs : List Output). outputs) made expected) outcome (new ≡ old)
      (λ outputs. StoresFiles outcome (files_from 0 outputs) (CommitsIn folder old new))
      → StoresIn folder outcome expected (disk_histories old new)
  stores_in outcome expected step = (step.0, agrees_unless_memory run_refusal (λ (outputs : List Output). outputs) step.0 expected step.1, by step.0 step.2)
    where
      by : (made : Result (List Output) RunFault) → GoesOn made outcome (new ≡ old) (λ outputs. StoresFiles outcome (files_from 0 outputs) (CommitsIn folder old new))
          → GoesOn made outcome (new ≡ old) (λ outputs. StoresFiles outcome (files_from 0 outputs) (CommitsIn folder old new) × LeavesWhole old new (map (in_folder folder) (files_from 0 outputs)))
      by (Ok outputs) stores = (stores, files_whole outcome (files_from 0 outputs) stores)
      by (Err fault) ends = ends
