use Rattle.std.proofs.Common.{Err, ap, ◌∙◌}
use Rattle.std.proofs.lemmas.Result.{err_from_is_err_and}
use Rattle.run_files.specs.{decode_pairs, pair_value}
use Rattle.run_files.proofs.DumpLemmas.{byte_told}
use Rattle.run_files.proofs.dumps.pair_byte.Goals as goal

pub returns-in_err-decode_to_slice : goal.returns-in_err-decode_to_slice
unfolding decode_pairs
returns-in_err-decode_to_slice c =
    let told = byte_told (pair_value c.args.high c.args.low 0) c.decode_to_slice.result c.decode_to_slice.new.out c.decode_to_slice.ensures.value in
    let p = err_from_is_err_and c.from_residual.result c.from_residual.ensures.1 in
    p.1 ∙ ap Err p.2 ∙ rw c.in_err-decode_to_slice.was at told

pub returns : goal.returns
unfolding decode_pairs
returns c =
    let told = byte_told (pair_value c.args.high c.args.low 0) c.decode_to_slice.result c.decode_to_slice.new.out c.decode_to_slice.ensures.value in
    rw c.in_ok-decode_to_slice.was at told
