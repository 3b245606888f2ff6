-- What a disk tells of its paths: what they held at first, and the files that were published since, in order.
use Rattle.std.specs.Prelude.{◌≡◌, ◌≤◌, ◌⊎◌, ⊤, ℕ, List, [], ◌∷◌, ◌++◌, length, take, fold, bytes_eq, if◌then◌else◌, Option, Some, None, Result, Ok, Err}
use Rattle.disks.specs.declared.disk.DiskFault.{DiskFault}
use Rattle.disks.specs.declared.disk.DiskFault.TheVariants as fault
use Rattle.disks.specs.FileContents.{Held, FileContents, whole_file}

-- a file that was published: its path, and all its bytes
pub record PublishedFile : Type 0 where
  pub path : List ℕ
  pub bytes : List ℕ

abbrev pub published_file : List ℕ → List ℕ → PublishedFile
published_file path bytes = record { path = path; bytes = bytes }

-- what paths hold once one holds this file, or once these files have been published
abbrev pub held_with : Held → List ℕ → FileContents → Held
held_with held at file = λ path. if bytes_eq path at then Some file else held path

abbrev pub held_after : Held → List PublishedFile → Held
held_after held files = fold (λ had file. held_with had file.path (whole_file file.bytes)) held files

pub record History : Type 0 where
  pub first : Held
  pub published : List PublishedFile

abbrev pub with_published : History → List PublishedFile → History
with_published h files = record { first = h.first; published = h.published ++ files }

-- what its paths held when n files had been published, and what they hold now
abbrev pub held_at : History → ℕ → Held
held_at h n = held_after h.first (take n h.published)

abbrev pub held_now : History → Held
held_now h = held_after h.first h.published

-- how many calls of the disk failed if one ended so: one that ran out of memory did not fail
abbrev pub failures : Result (Unit {0}) DiskFault → ℕ
failures (Ok _) = 0
failures (Err fault.Failed) = 1
failures (Err fault.Memory) = 0

-- Between two histories of a disk exactly these files were published. If the disk tells no history, nothing is claimed.
abbrev pub Publishes : Option History → Option History → List PublishedFile → Type 0
Publishes None new files = ⊤
Publishes (Some h) new files = new ≡ Some (with_published h files)

-- one of these files is at this path, and is held whole
abbrev pub HoldsOneOf : List PublishedFile → List ℕ → Option FileContents → Type 0
HoldsOneOf [] path held = ⊥
HoldsOneOf (file ∷ files) path held = ((file.path ≡ path) × (held ≡ Some (whole_file file.bytes))) ⊎ HoldsOneOf files path held

-- At each moment from the first history to the second, each path held what it held in the first, or one of these files whole. No history has drafts.
abbrev pub LeavesWhole : Option History → Option History → List PublishedFile → Type 0
LeavesWhole (Some h) (Some k) files = (n : ℕ) → length h.published ≤ n → n ≤ length k.published → (path : List ℕ)
    → (held_at k n path ≡ held_now h path) ⊎ HoldsOneOf files path (held_at k n path)
LeavesWhole old new files = ⊤

abbrev pub PublishingLeavesWhole : Type 0
PublishingLeavesWhole = (old new : Option History) (files : List PublishedFile) (n : ℕ) → Publishes old new (take n files) → LeavesWhole old new files

-- publishing some first files, and then all of them anew, is the same as publishing all of them once
abbrev pub PublishedAgain : Type 0
PublishedAgain = (held : Held) (files : List PublishedFile) (n : ℕ) (path : List ℕ) → held_after (held_after held (take n files)) files path ≡ held_after held files path
