use Rattle.std.proofs.Common.{◌≡◌, ◌<◌, ◌+◌, ◌-◌, ◌*◌, length, take, drop}
use Rattle.toxicap.specs.{into_iter_items, CommitsIn, Leaves, files_from, outputs_of_sources}
use Rattle.toxicap.proofs.StoringEnds.{outputs_in}
use Rattle.toxicap.proofs.storing.store_each.Given as goal

-- committed are the files of the outputs before this number, and no call of the disk failed
abbrev pub invariant-loop-number : goal.invariant-loop-number
invariant-loop-number g l = record {
  committed : CommitsIn l.folder.path (g.D.Disk.history l.fn.disk) (g.D.Disk.history l.disk) (take (2 * l.number) (files_from 0 (outputs_of_sources l.sources)));
  leaves : Leaves l.folder (g.D.Disk.standing l.fn.disk) (g.D.Disk.standing l.disk);
  swept : g.D.Disk.is_swept l.fn.disk l.folder.path l.folder.read → g.D.Disk.is_swept l.disk l.folder.path l.folder.read;
  no_fault : g.D.Disk.faults l.disk ≡ g.D.Disk.faults l.fn.disk;
}

abbrev pub decreases-loop-number : goal.decreases-loop-number
decreases-loop-number g l = length l.sources.scenarios.now - l.number

-- the same, drafts of the next outputs are left, and at the end the number has risen
abbrev pub invariant-loop-draft : goal.invariant-loop-draft
invariant-loop-draft g l = record {
  can_next : (goal.iterator-loop-draft g).can_next l.draft-iterator;
  is_finite : (goal.iterator-loop-draft g).is_finite l.draft-iterator;
  committed : CommitsIn l.folder.path (g.D.Disk.history l.fn.disk) (g.D.Disk.history l.disk) (take (2 * l.number) (files_from 0 (outputs_of_sources l.sources)));
  leaves : Leaves l.folder (g.D.Disk.standing l.fn.disk) (g.D.Disk.standing l.disk);
  swept : g.D.Disk.is_swept l.fn.disk l.folder.path l.folder.read → g.D.Disk.is_swept l.disk l.folder.path l.folder.read;
  no_fault : g.D.Disk.faults l.disk ≡ g.D.Disk.faults l.fn.disk;
  left : outputs_in (into_iter_items l.draft-iterator) ≡ take (length (outputs_in (into_iter_items l.draft-iterator))) (drop l.number (outputs_of_sources l.sources));
  rises : l.initial.number < l.number + length (into_iter_items l.draft-iterator);
}
