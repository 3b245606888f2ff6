-- Files of the host as they are found.
use Rattle.std.specs.Prelude.{ℕ, List}
use Rattle.disks.specs.declared.disk.FileId.{FileId}

pub record FoundFileView : Type 0 where
  pub name : List ℕ
  pub id : FileId
