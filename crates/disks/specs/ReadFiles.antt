-- The files that a run has read: what is seen of them.
use Rattle.std.specs.Prelude.{Bool, false, List, [], ◌∷◌, ◌++◌, Option, Some, None, Result, Ok, Err}
use Rattle.disks.specs.declared.disk.DiskFault.{DiskFault}
use Rattle.disks.specs.declared.disk.FileId.{FileId}

pub record ReadFilesView : Type 0 where
  pub ids : List FileId
  pub are_known : Bool

-- if a file is not known, not all are; one to which no path leads adds nothing
abbrev pub with_file : ReadFilesView → Result (Option FileId) DiskFault → ReadFilesView
with_file read (Ok (Some id)) = record read { ids = read.ids ++ id ∷ [] }
with_file read (Ok None) = read
with_file read (Err fault) = record read { are_known = false }
