-- What is seen of a disk in memory.
use Rattle.std.specs.Prelude.{ℕ, List, fold, Option, Some, None}
use Rattle.std.specs.Borrow.{Bor}
use Rattle.disks.specs.declared.disk.FileId.{FileId}
use Rattle.disks.specs.FileContents.{Held, FileContents, whole_file}
use Rattle.disks.specs.Histories.{History, PublishedFile, held_with}
use Rattle.disks.specs.Standing.{Numbered, Standing, StandingFile, one_more}

pub record PlacedFile : Type 0 where
  pub path : List ℕ
  pub file : FileContents

pub record MemoryDiskView : Type 0 where
  pub first : List PlacedFile
  pub published : List PublishedFile
  pub failed : ℕ

abbrev pub nothing_held : Held
nothing_held = λ path. None

abbrev pub first_held : List PlacedFile → Held
first_held files = fold (λ had f. held_with had f.path f.file) nothing_held files

abbrev pub history_of : MemoryDiskView → History
history_of disk = record { first = first_held disk.first; published = disk.published }

abbrev pub found_contents : Option (Bor (List ℕ) × ℕ × FileId) → Option FileContents
found_contents None = None
found_contents (Some found) = Some (record { bytes = found.0.now; lost = found.1 })

-- the files that stood from the beginning, and those that were published since
abbrev pub first_numbered : List PlacedFile → Numbered
first_numbered files = fold (λ had f. one_more 0 had f.path f.file) (record { count = 0; at = λ path. None }) files

abbrev pub published_numbered : Standing → List PublishedFile → Numbered
published_numbered first files = fold (λ had f. one_more 1 had f.path (whole_file f.bytes)) (record { count = 0; at = first }) files

abbrev pub standing_of : MemoryDiskView → Standing
standing_of disk = (published_numbered (first_numbered disk.first).at disk.published).at

abbrev pub found_file : Option (Bor (List ℕ) × ℕ × FileId) → Option StandingFile
found_file None = None
found_file (Some found) = Some (record { id = found.2; contents = record { bytes = found.0.now; lost = found.1 } })
