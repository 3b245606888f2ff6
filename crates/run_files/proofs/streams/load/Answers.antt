use Rattle.std.proofs.Common.{[], refl}
use Rattle.std.proofs.KnownBytes.{Consumes-all, Consumes-nil}
use Rattle.std.proofs.lemmas.Result.{err_from_is_err_and}
use Rattle.run_files.proofs.LoadedTexts.{reader_stops}
use Rattle.run_files.proofs.streams.load.Goals as goal

pub returns-in_err-bytes-clause-refused : goal.returns-in_err-bytes-clause-refused
returns-in_err-bytes-clause-refused g c =
    let fault = err_from_is_err_and c.from_residual-in_err-bytes.result c.from_residual-in_err-bytes.ensures.1 in
    rw (fault.1, fault.2)
    (reader_stops _ _ _ _ c.in_err-bytes.field-0.0 (c.in_err-bytes.ensures.loads c.args.reader.now (rw c.new.ensures.items (Consumes-nil _, refl))))

pub returns : goal.returns
returns g c =
    let bytes = c.in_ok-bytes.bytes.items in
    let loads = c.in_ok-bytes.ensures.loads c.args.reader.now (rw c.new.ensures.items (Consumes-nil _, refl)) in
    record {
      whole = Consumes-all _ _ bytes [] bytes loads.0.0 loads.1 refl;
      consumed = loads.0.0;
      at_end = loads.1;
      within = c.in_ok-bytes.ensures.within;
      none_failed = loads.0.1;
      refused = tt;
    }
