use Rattle.std.proofs.Common.{◌≡◌, ℕ, ◌+◌, ◌*◌, [], length, drop, Ok, Err, refl, ap, arith}
use Rattle.std.proofs.lemmas.List.{drop_all}
use Rattle.std.proofs.lemmas.Result.{err_from_is_err_and}
use Rattle.run_files.specs.{Takes, capture_file, report_file}
use Rattle.run_files.proofs.StoredFiles.{Takes-append, Takes-none, next_files, not_put, put_first}
use Rattle.run_files.proofs.outputs.store_all.Goals as goal

pub loop-number-init : goal.loop-number-init
loop-number-init g c = record { goes_on = λ now result is. is; none_failed = refl }

pub loop-number-preserved : goal.loop-number-preserved
loop-number-preserved g c =
    let n : ℕ = c.loop-number.number in
    let o = c.index-all-number.result in
    let next = next_files c.as_slice-all.result.now n o c.loop-number-test.true c.index-all-number.is in
    let one = rw c.as_slice-capture.ensures at c.in_ok-put_file.ensures.puts in
    let two = rw c.as_slice-report.ensures at c.in_ok-put_file-2.ensures.puts in
    record {
      goes_on = λ now result is. c.loop-number.invariant.goes_on now result
          (put_first Takes Takes-append (2 * n) (2 * n + 1) _ (capture_file n o) _ _ _ _ result refl next one
          (put_first Takes Takes-append (2 * n + 1) (2 * (n + 1)) _ (report_file n o) _ _ _ _ result (omega arith) refl two is));
      none_failed = omega (arith, c.in_ok-put_file-2.ensures.failures, c.in_ok-put_file.ensures.failures, c.loop-number.invariant.none_failed);
    }

pub returns-clause-stores : goal.returns-clause-stores
returns-clause-stores g c =
    let none : drop c.loop-number.number c.as_slice-all.result.now ≡ [] = drop_all c.loop-number.number c.as_slice-all.result.now c.loop-number-test.false in
    rw (← c.as_slice-all.ensures) (c.loop-number.invariant.goes_on _ (Ok tt) (rw none (Takes-none _)))

-- the capture was not taken
pub returns-in_err-put_file-clause-stores : goal.returns-in_err-put_file-clause-stores
returns-in_err-put_file-clause-stores g c =
    let fault = err_from_is_err_and c.from_residual.result c.from_residual.ensures.1 in
    let n : ℕ = c.loop-number.number in
    let o = c.index-all-number.result in
    let next = next_files c.as_slice-all.result.now n o c.loop-number-test.true c.index-all-number.is in
    rw (fault.1, fault.2, ← c.as_slice-all.ensures)
    (c.loop-number.invariant.goes_on _ (Err c.in_err-put_file.field-0.0)
    (not_put Takes Takes-none (2 * n) _ _ _ c.in_err-put_file.field-0.0 (omega (arith, ap length next)) c.in_err-put_file.ensures.puts))

pub returns-in_err-put_file-clause-failures : goal.returns-in_err-put_file-clause-failures
returns-in_err-put_file-clause-failures g c =
    let fault = err_from_is_err_and c.from_residual.result c.from_residual.ensures.1 in
    rw (fault.1, fault.2) (omega (arith, c.in_err-put_file.ensures.failures, c.loop-number.invariant.none_failed))

-- the capture was taken, and the report was not
pub returns-in_err-put_file-2-clause-stores : goal.returns-in_err-put_file-2-clause-stores
returns-in_err-put_file-2-clause-stores g c =
    let fault = err_from_is_err_and c.from_residual-in_err-put_file-2.result c.from_residual-in_err-put_file-2.ensures.1 in
    let n : ℕ = c.loop-number.number in
    let o = c.index-all-number.result in
    let next = next_files c.as_slice-all.result.now n o c.loop-number-test.true c.index-all-number.is in
    let one = rw c.as_slice-capture.ensures at c.in_ok-put_file.ensures.puts in
    rw (fault.1, fault.2, ← c.as_slice-all.ensures)
    (c.loop-number.invariant.goes_on _ (Err c.in_err-put_file-2.field-0.0)
    (put_first Takes Takes-append (2 * n) (2 * n + 1) _ (capture_file n o) _ _ _ _ (Err c.in_err-put_file-2.field-0.0) refl next one
    (not_put Takes Takes-none (2 * n + 1) _ _ _ c.in_err-put_file-2.field-0.0 (omega arith) c.in_err-put_file-2.ensures.puts)))

pub returns-in_err-put_file-2-clause-failures : goal.returns-in_err-put_file-2-clause-failures
returns-in_err-put_file-2-clause-failures g c =
    let fault = err_from_is_err_and c.from_residual-in_err-put_file-2.result c.from_residual-in_err-put_file-2.ensures.1 in
    rw (fault.1, fault.2) (omega (arith, c.in_err-put_file-2.ensures.failures, c.in_ok-put_file.ensures.failures, c.loop-number.invariant.none_failed))
