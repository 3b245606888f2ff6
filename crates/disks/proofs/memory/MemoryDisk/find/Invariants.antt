use Rattle.std.proofs.Common.{◌≡◌, take}
use Rattle.disks.specs.Histories.{held_after}
use Rattle.disks.specs.MemoryDisks.{first_held, first_numbered, found_contents, found_file, published_numbered}
use Rattle.disks.proofs.memory.MemoryDisk.find.Given as goal

abbrev pub invariant-loop-place : goal.invariant-loop-place
invariant-loop-place l =
    (found_contents l.found ≡ first_held (take l.place l.fn.self.first) l.fn.path)
    × (found_file l.found ≡ (first_numbered (take l.place l.fn.self.first)).at l.fn.path)
    × ((first_numbered (take l.place l.fn.self.first)).count ≡ l.place)

abbrev pub invariant-loop-place-2 : goal.invariant-loop-place-2
invariant-loop-place-2 l =
    let first = (first_numbered l.fn.self.first).at in
    (found_contents l.found ≡ held_after (first_held l.fn.self.first) (take l.place l.fn.self.published) l.fn.path)
    × (found_file l.found ≡ (published_numbered first (take l.place l.fn.self.published)).at l.fn.path)
    × ((published_numbered first (take l.place l.fn.self.published)).count ≡ l.place)
