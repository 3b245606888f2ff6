-- A disk in memory tells the same contents by its history and by what stands.
use Rattle.std.specs.Prelude.{◌≡◌, ℕ, Bool, true, false, List, [], ◌∷◌, fold, bytes_eq, Option, Some, None, if◌then◌else◌, refl}
use Rattle.disks.specs.FileContents.{Held, FileContents, whole_file}
use Rattle.disks.specs.Histories.{PublishedFile, held_after, held_with, held_now}
use Rattle.disks.specs.Standing.{Numbered, StandingFile, contents_of, one_more}
use Rattle.disks.specs.MemoryDisks.{MemoryDiskView, PlacedFile, first_held, first_numbered, history_of, nothing_held, standing_of}

chosen : (b : Bool) (file : StandingFile) (old : Option StandingFile) (held : Option FileContents) → contents_of old ≡ held
    → contents_of (if b then Some file else old) ≡ (if b then Some file.contents else held)
chosen true file old held same = refl
chosen false file old held same = same

of_first : (files : List PlacedFile) (had : Numbered) (held : Held) (path : List ℕ) → contents_of (had.at path) ≡ held path
    → contents_of ((fold (λ (n : Numbered) (f : PlacedFile). one_more 0 n f.path f.file) had files).at path)
    ≡ fold (λ (h : Held) (f : PlacedFile). held_with h f.path f.file) held files path
of_first [] had held path same = same
of_first (f ∷ files) had held path same =
    of_first files (one_more 0 had f.path f.file) (held_with held f.path f.file) path
    (chosen (bytes_eq path f.path) (record { id = record { device = 0; inode = had.count }; contents = f.file }) (had.at path) (held path) same)

of_published : (files : List PublishedFile) (had : Numbered) (held : Held) (path : List ℕ) → contents_of (had.at path) ≡ held path
    → contents_of ((fold (λ (n : Numbered) (f : PublishedFile). one_more 1 n f.path (whole_file f.bytes)) had files).at path) ≡ held_after held files path
of_published [] had held path same = same
of_published (f ∷ files) had held path same =
    of_published files (one_more 1 had f.path (whole_file f.bytes)) (held_with held f.path (whole_file f.bytes)) path
    (chosen (bytes_eq path f.path) (record { id = record { device = 1; inode = had.count }; contents = whole_file f.bytes }) (had.at path) (held path) same)

pub told_of_memory : (disk : MemoryDiskView) (path : List ℕ) → contents_of (standing_of disk path) ≡ held_now (history_of disk) path
told_of_memory disk path =
    of_published disk.published (record { count = 0; at = (first_numbered disk.first).at }) (first_held disk.first) path
    (of_first disk.first (record { count = 0; at = λ at. None }) nothing_held path refl)
