-- Folders of a disk: which names they refuse, where their drafts are, and which files were committed to them.
use Rattle.std.specs.Prelude.{◌≡◌, ◌⊎◌, ⊤, false, Some, None, ◌<◌, ◌^◌, ℕ, nat_lt, ◌==◌, Bool, ◌||◌, if◌then◌else◌, List, [], ◌++◌, codes, length, map, Option}
use Rattle.std.specs.Prelude.{Result}
use Rattle.run_files.specs.Words.{decimal, has_slash, is_draft_name, path_in, unfinished, History, PublishedFile, published_file, Publishes, ReadFilesView}
use Rattle.run_files.specs.Words.{HasRead, Standing}
use Rattle.run_files.specs.WrittenOutputs.{StoredFile}
use Rattle.run_files.specs.declared.error.RunFault.{RunFault}
use Rattle.run_files.specs.RunFault.{failed_puts}

abbrev pub name_limit : ℕ
name_limit = 255

-- its path, and the files that its run has read
pub record FolderView : Type 0 where
  pub path : List ℕ
  pub read : ReadFilesView

-- a folder refuses this name, and with an empty path each name
abbrev pub is_refused : List ℕ → List ℕ → Bool
is_refused folder name = length folder == 0 || nat_lt name_limit (length name) || has_slash name || is_draft_name name

-- the number of the disk's calls that failed if storing had this outcome: 0 in a folder with an empty path, which refuses every name itself
abbrev pub failed_stores : List ℕ → Result (Unit {0}) RunFault → ℕ
failed_stores folder outcome = failed_puts (length folder == 0) outcome

-- drafts that exist at one time have different places, which count from 0
abbrev pub draft_name : ℕ → List ℕ
draft_name place = unfinished ++ codes "-" ++ decimal place

-- If the folder's path is empty, so is the draft's: no file can be there.
abbrev pub draft_path : List ℕ → ℕ → List ℕ
draft_path folder place = if length folder == 0 then [] else path_in folder (draft_name place)

-- in a folder with a path, drafts in different places have different paths
abbrev pub DraftPathsDiffer : Type 0
DraftPathsDiffer = (folder : List ℕ) (one other : ℕ) → 0 < length folder → one < 2 ^ 64 → other < 2 ^ 64
    → draft_path folder one ≡ draft_path folder other → one ≡ other

-- a stored file as a disk publishes it: its path in a folder, and its bytes
abbrev pub in_folder : List ℕ → StoredFile → PublishedFile
in_folder folder file = published_file (path_in folder file.name) file.bytes

-- as far as the disk tells, exactly these files were published, in this order, all in this folder
abbrev pub CommitsIn : List ℕ → Option History → Option History → List StoredFile → Type 0
CommitsIn folder old new files = Publishes old new (map (in_folder folder) files)

-- no file of the folder has this path: it is that of none of the names that the folder takes
abbrev pub IsOutside : List ℕ → List ℕ → Type 0
IsOutside folder path = (name : List ℕ) → is_refused folder name ≡ false → path ≡ path_in folder name → ⊥

-- The same file stands at each path, or none as before, except at paths of the folder at which no file stood that the run had read. If the disk does
-- not tell what stands, nothing is claimed.
abbrev pub Leaves : FolderView → Option Standing → Option Standing → Type 0
Leaves folder None new = ⊤
Leaves folder (Some old) None = ⊥
Leaves folder (Some old) (Some new) = (path : List ℕ) → HasRead folder.read (old path) ⊎ IsOutside folder.path path → new path ≡ old path
