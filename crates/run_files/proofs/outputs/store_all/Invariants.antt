use Rattle.std.proofs.Common.{◌≡◌, ◌*◌, List, drop, Option, Result}
use Rattle.run_files.specs.{Takes, StoredFile, files_from, Stores}
use Rattle.run_files.specs.declared.error.StoreFault.{StoreFault}
use Rattle.run_files.proofs.outputs.store_all.Given as goal

-- no call has failed, and however the files of the outputs that are left are stored, all are
abbrev pub invariant-loop-number : goal.invariant-loop-number
invariant-loop-number g l = record {
  goes_on : (now : Option (List StoredFile)) (result : Result (Unit {0}) StoreFault)
      → Stores (2 * l.number) (files_from l.number (drop l.number l.all)) (Takes (g.S.Shelf.files l.shelf) now) result
      → Stores 0 (files_from 0 l.all) (Takes (g.S.Shelf.files l.fn.shelf) now) result;
  none_failed : g.S.Shelf.failures l.shelf ≡ g.S.Shelf.failures l.fn.shelf;
}
