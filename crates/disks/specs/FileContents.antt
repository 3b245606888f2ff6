-- The contents of a file, as far as a disk tells them, and what reading it gives.
use Rattle.std.specs.Prelude.{◌≡◌, ◌<◌, ◌≤◌, ℕ, ◌+◌, ◌-◌, List, length, take, drop, Option, Some, None, IsSome, Result, Ok, Err}
use Rattle.disks.specs.declared.disk.DiskFault.{DiskFault}
use Rattle.disks.specs.declared.disk.DiskFault.TheVariants as fault

-- the bytes that can be read, and the number of lost bytes after them, of which reading one fails
pub record FileContents : Type 0 where
  pub bytes : List ℕ
  pub lost : ℕ

abbrev pub whole_file : List ℕ → FileContents
whole_file bytes = record { bytes = bytes; lost = 0 }

abbrev pub file_len : FileContents → ℕ
file_len file = length file.bytes + file.lost

-- the contents of the file at each path, or None if none can be opened
abbrev pub Held : Type 0
Held = List ℕ → Option FileContents

abbrev pub IsFileAt : Option FileContents → Option FileContents → Type 0
IsFileAt None contents = ⊥
IsFileAt (Some file) contents = contents ≡ Some file

-- How opening a path ends: `contents` gives those of an open file, and `held` is what the path holds. It is out of memory only if a file is there.
abbrev pub Opens : {File : Type 0} → (File → Option FileContents) → Option FileContents → Result File DiskFault → Type 0
Opens contents held (Ok file) = IsFileAt held (contents file)
Opens contents held (Err fault.Failed) = held ≡ None
Opens contents held (Err fault.Memory) = IsSome held

-- one read put n bytes of the file from a place on into a room, and none only at the file's end
pub record Gives (file : FileContents) (place : ℕ) (room : List ℕ) (n : ℕ) : Type 0 where
  pub bytes : take n room ≡ take n (drop place file.bytes)
  pub within : n ≤ length file.bytes - place
  pub at_end : n ≡ 0 → 0 < length room → file_len file ≤ place

abbrev pub Reads : Result ℕ DiskFault → FileContents → ℕ → List ℕ → Type 0
Reads (Ok n) file place room = Gives file place room n
Reads (Err fault) file place room = (length file.bytes ≤ place) × (place < file_len file)
