-- What stands at the paths of a disk, as far as it tells: each file by its id, with its contents. And what stays of it.
use Rattle.std.specs.Prelude.{◌≡◌, ⊤, ℕ, ◌+◌, false, List, Contains, Option, Some, None, bytes_eq, if◌then◌else◌}
use Rattle.disks.specs.declared.disk.FileId.{FileId}
use Rattle.disks.specs.FileContents.{FileContents}
use Rattle.disks.specs.Histories.{History, held_now}
use Rattle.disks.specs.ReadFiles.{ReadFilesView}

pub record StandingFile : Type 0 where
  pub id : FileId
  pub contents : FileContents

-- the file at each path
abbrev pub Standing : Type 0
Standing = List ℕ → Option StandingFile

abbrev pub id_of : Option StandingFile → Option FileId
id_of None = None
id_of (Some file) = Some file.id

abbrev pub contents_of : Option StandingFile → Option FileContents
contents_of None = None
contents_of (Some file) = Some file.contents

-- a history and what stands tell the same contents of each path
abbrev pub Agree : Option History → Option Standing → Type 0
Agree (Some h) (Some standing) = (path : List ℕ) → contents_of (standing path) ≡ held_now h path
Agree _ _ = ⊤

-- a file stands there, and it is one of those that were read
abbrev pub HasRead : ReadFilesView → Option StandingFile → Type 0
HasRead read None = ⊥
HasRead read (Some file) = Contains read.ids file.id

-- at each other path what stood there stands there still
abbrev pub ChangesAt : Option Standing → Option Standing → List ℕ → Type 0
ChangesAt None new at = ⊤
ChangesAt (Some old) None at = ⊥
ChangesAt (Some old) (Some new) at = (path : List ℕ) → bytes_eq path at ≡ false → new path ≡ old path

-- ---- files that stand one after another, each of which has its number as its id

pub record Numbered : Type 0 where
  pub count : ℕ
  pub at : Standing

abbrev pub one_more : ℕ → Numbered → List ℕ → FileContents → Numbered
one_more device had at contents = record {
  count = had.count + 1;
  at = λ path. if bytes_eq path at then Some (record { id = record { device = device; inode = had.count }; contents = contents }) else had.at path;
}
