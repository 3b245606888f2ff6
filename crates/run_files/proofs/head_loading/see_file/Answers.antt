use Rattle.std.proofs.Common.{Err, refl}
use Rattle.std.proofs.lemmas.Result.{err_from_is_err_and}
use Rattle.run_files.proofs.LoadedTexts.{text_of_path, file_loaded, none_come}
use Rattle.run_files.proofs.head_loading.see_file.Goals as goal

pub returns-in_err-file : goal.returns-in_err-file
returns-in_err-file g c =
    let fault = err_from_is_err_and c.from_residual.result c.from_residual.ensures.1 in
    rw (fault.1, fault.2) (Err c.in_err-file.field-0.0, refl, tt, c.in_err-file.ensures.of_file, c.in_err-file.ensures.untold)

pub see_whole-requires-clause-first : goal.see_whole-requires-clause-first
see_whole-requires-clause-first g c = none_come _ _ c.in_ok-file.ensures.place

pub returns : goal.returns
returns g c =
    let seen = c.see_whole.ensures in
    let own = file_loaded (λ text. text) _ _ _ seen.0 seen.2 seen.3 in (
      seen.0,
      seen.1,
      seen.2,
      own.0,
      text_of_path (λ text. text) seen.0 (g.D.Disk.history c.args.disk.now) c.args.path.now (g.D.File.DiskFile.contents c.in_ok-file.file)
          c.in_ok-file.ensures.contents own.1,
    )
