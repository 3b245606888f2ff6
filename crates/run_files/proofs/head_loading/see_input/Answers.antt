use Rattle.std.proofs.Common.{refl}
use Rattle.std.proofs.KnownBytes.{Consumes-nil}
use Rattle.run_files.proofs.LoadedTexts.{reader_loaded}
use Rattle.run_files.proofs.head_loading.see_input.Goals as goal

pub see_whole-requires-clause-first : goal.see_whole-requires-clause-first
see_whole-requires-clause-first g c = (Consumes-nil _, refl)

pub returns : goal.returns
returns g c = let seen = c.see_whole.ensures in (seen.0, seen.1, seen.2, reader_loaded _ _ _ _ seen.0 seen.3)
