use Rattle.std.proofs.Common.{ℕ, ◌+◌, ◌*◌, List, [], ◌∷◌, refl, arith}
use Rattle.std.proofs.lemmas.Result.{err_from_is_err_and}
use Rattle.run_files.specs.{CommitsIn, capture_file, report_file}
use Rattle.run_files.proofs.StoredFiles.{CommitsIn-append, CommitsIn-none, not_put, put_first, put_last}
use Rattle.run_files.proofs.folders.store_draft.Goals as goal

pub returns-in_err-commit_file-clause-stores : goal.returns-in_err-commit_file-clause-stores
returns-in_err-commit_file-clause-stores g c = λ output held.
    let folder : List ℕ = c.args.folder.now.path in
    let number : ℕ = c.args.number in
    let fault = err_from_is_err_and c.from_residual.result c.from_residual.ensures.1 in
    rw (fault.1, fault.2)
    (not_put (CommitsIn folder) (CommitsIn-none folder) (2 * number) _ _ _ c.in_err-commit_file.field-0.0 (omega arith) (c.in_err-commit_file.ensures.puts output.capture held.0))

pub returns-clause-stores : goal.returns-clause-stores
returns-clause-stores g c = λ output held.
    let folder : List ℕ = c.args.folder.now.path in
    let number : ℕ = c.args.number in
    put_first (CommitsIn folder) (CommitsIn-append folder) (2 * number) (2 * number + 1) _ (capture_file number output) (report_file number output ∷ []) _ _ _ c.commit_file-2.result refl refl
    (c.in_ok-commit_file.ensures.puts output.capture held.0)
    (put_last (CommitsIn folder) (CommitsIn-none folder) (2 * number + 1) (report_file number output) _ _ c.commit_file-2.result (c.commit_file-2.ensures.puts output.report held.1))
