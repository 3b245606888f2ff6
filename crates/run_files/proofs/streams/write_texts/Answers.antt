use Rattle.std.proofs.Common.{◌+◌, ℕ, List, length, take}
use Rattle.std.proofs.KnownBytes.{Appends-trans}
use Rattle.std.proofs.lemmas.Result.{err_from_is_err_and}
use Rattle.run_files.specs.{Bor, joined}
use Rattle.run_files.proofs.StoredFiles.{printed_at}
use Rattle.run_files.proofs.streams.write_texts.Goals as goal

pub returns-in_err-write_bytes-clause-first_part : goal.returns-in_err-write_bytes-clause-first_part
returns-in_err-write_bytes-clause-first_part g c =
    let p = err_from_is_err_and c.from_residual.result c.from_residual.ensures.1 in
    let texts = c.args.texts.now in
    let i = c.loop-text.text-index in
    let part = c.in_err-write_bytes.ensures.first_part in
    let printed = printed_at (λ (t : Bor (List ℕ)). t.now) texts i part.0 _ c.loop-text-test.true part.1 in
    let all = Appends-trans _ _ _ (joined (take i texts)) _ c.loop-text.invariant.written part.2 in
    rw p.1 (length (joined (take i texts)) + part.0, printed.0, (rw printed.1 at all))
