-- How all bytes of an input are loaded, from a file of a disk, whole or in blocks, or from a reader.
use Rattle.std.specs.Prelude.{◌≡◌, ◌≤◌, ℕ, nat_lt, if◌then◌else◌, List, length, take, Option, Some, None, Result, Ok, Err, ◌<◌, IfSome, ◌+◌, ◌-◌, ◌*◌, ◌&&◌}
use Rattle.std.specs.Prelude.{map, drop}
use Rattle.run_files.specs.Words.{range_with_len, Held, FileContents, file_len, capture_limit, block_len}
use Rattle.run_files.specs.declared.error.RunFault.{RunFault}
use Rattle.run_files.specs.declared.error.RunFault.TheVariants.{CaptureTooLong, Memory, ReadFailed}

-- ---- files at paths: the text that is loaded of each

-- the text of a file: its bytes, if they are no more than a capture may have and none is lost
abbrev pub text_of_file : Option FileContents → Result (List ℕ) RunFault
text_of_file None = Err ReadFailed
text_of_file (Some file) =
    if nat_lt capture_limit (length file.bytes) then Err CaptureTooLong else (if nat_lt 0 file.lost then Err ReadFailed else Ok file.bytes)

abbrev pub text_at : Held → List ℕ → Result (List ℕ) RunFault
text_at held path = text_of_file (held path)

-- a fault of a file, or out of memory
abbrev pub IsOfFile : RunFault → Type 0
IsOfFile ReadFailed = Unit {0}
IsOfFile CaptureTooLong = Unit {0}
IsOfFile Memory = Unit {0}
IsOfFile _ = ⊥

-- some bytes are the first ones of a file, and it is read on after them
abbrev pub HaveCome : FileContents → List ℕ → ℕ → Type 0
HaveCome file bytes place = (bytes ≡ take (length bytes) file.bytes) × (length bytes ≤ length file.bytes) × (place ≡ length bytes)

-- ---- an input, from a file of a disk or a reader

-- `Came` means that these bytes came, and `Failed` that they came and then a read failed.

-- what came up to one state and up to a later one
abbrev pub ComesOn : {S : Type 0} → (S → S → List ℕ → Type 0) → S → List ℕ → S → List ℕ → Type 0
ComesOn {S} Came from first to given = (before : S) → Came before from first → Came before to given

-- why loading stopped
abbrev pub Stops : (List ℕ → Type 0) → (List ℕ → Type 0) → RunFault → Type 0
Stops Came Failed CaptureTooLong = (given : List ℕ) × Came given × (capture_limit < length given)
Stops Came Failed ReadFailed = (given : List ℕ) × Failed given × (length given ≤ capture_limit)
Stops Came Failed Memory = (given : List ℕ) × Came given × (length given ≤ capture_limit)
Stops Came Failed _ = ⊥

abbrev pub Loads : {A : Type 0} → (List ℕ → Type 0) → (List ℕ → Type 0) → Type 0 → (A → List ℕ) → Result A RunFault → Type 0
Loads Came Failed AtEnd view (Ok text) = Came (view text) × AtEnd
Loads Came Failed AtEnd view (Err fault) = Stops Came Failed fault

-- the same after some first bytes, which came already
abbrev pub LoadsAfter : {S A : Type 0} → (S → S → List ℕ → Type 0) → (S → S → List ℕ → Type 0) → (S → Type 0) → S → List ℕ → S → (A → List ℕ) → Result A RunFault
    → Type 0
LoadsAfter {S} Came Failed AtEnd from first to view result = (before : S) → Came before from first → Loads (Came before to) (Failed before to) (AtEnd to) view result

-- ---- a file, by its contents before and now, and its place

abbrev pub CameOf : Option FileContents → Option FileContents → ℕ → List ℕ → Type 0
CameOf contents now place bytes = (now ≡ contents) × IfSome contents (λ f. HaveCome f bytes place)

abbrev pub FailedOf : Option FileContents → Option FileContents → ℕ → List ℕ → Type 0
FailedOf contents now place bytes = (now ≡ contents) × IfSome contents (λ f. HaveCome f bytes place × (length f.bytes ≤ place) × (place < file_len f))

abbrev pub IsPast : Option FileContents → ℕ → Type 0
IsPast contents place = IfSome contents (λ f. file_len f ≤ place)

-- ---- a reader that counts its failed calls

-- Why loading stopped after `given` bytes. Only a failed read raises the count of failed calls.
abbrev pub StopsLoading : RunFault → ℕ → ℕ → ℕ → Type 0
StopsLoading CaptureTooLong given old_failed new_failed = (capture_limit < given) × (new_failed ≡ old_failed)
StopsLoading ReadFailed given old_failed new_failed = (given ≤ capture_limit) × (new_failed ≡ old_failed + 1)
StopsLoading Memory given old_failed new_failed = (given ≤ capture_limit) × (new_failed ≡ old_failed)
StopsLoading _ given old_failed new_failed = ⊥

-- how the text of a reader was loaded, where `Gave` means that it gave some bytes: to its end, or as far as loading came
abbrev pub LoadsInput : {A : Type 0} → (A → List ℕ) → Result A RunFault → (List ℕ → Type 0) → Type 0 → ℕ → ℕ → Type 0
LoadsInput view (Ok text) Gave AtEnd old_failed new_failed = Gave (view text) × AtEnd × (new_failed ≡ old_failed)
LoadsInput view (Err fault) Gave AtEnd old_failed new_failed =
    (given : List ℕ) × Gave given × StopsLoading fault (length given) old_failed new_failed

-- ---- the blocks of a file, which are loaded one by one

-- the bytes of its own of the block that begins at a place; or one of them is lost
abbrev pub part_at : FileContents → ℕ → Result (List ℕ) RunFault
part_at file at =
    if nat_lt (length file.bytes) (at + block_len) && nat_lt 0 file.lost then Err ReadFailed else Ok (take block_len (drop at file.bytes))

abbrev pub HasBlocks : ℕ → FileContents → Type 0
HasBlocks count file = ((count - 1) * block_len < file_len file) × (file_len file ≤ count * block_len)

-- ---- what is seen of a block that is loaded

pub record BlockView : Type 0 where
  pub contents : Option FileContents
  pub at : ℕ

abbrev pub block_view : Option FileContents → ℕ → BlockView
block_view contents at = record { contents = contents; at = at }

-- the first blocks of a file
abbrev pub blocks_of : Option FileContents → ℕ → List BlockView
blocks_of contents count = map (λ i. block_view contents (i * block_len)) (range_with_len 0 count)
