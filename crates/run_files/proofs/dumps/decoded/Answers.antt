use Rattle.std.proofs.Common.{arith}
use Rattle.std.proofs.lemmas.Grind.{common_steps}
use Rattle.run_files.specs.{without_blanks}
use Rattle.run_files.proofs.DumpLemmas.{decoded_none, decoded_more, decoded_all}
use Rattle.run_files.proofs.dumps.decoded.Goals as goal

pub pairs-init : goal.pairs-init
pairs-init c = decoded_none _ _ c.in_ok-bytes.ensures.items

pub pairs-preserved : goal.pairs-preserved
pairs-preserved c =
    let next = rw c.in-Some.is at c.in_ok-byte.ensures.found in
    let more = decoded_more (without_blanks c.args.text.now) c.pairs.bytes.items c.pairs.rest.now c.in-Some.left.now c.in-Some.byte next c.pairs.invariant in
    grind (arith, common_steps, more)

pub returns : goal.returns
returns c = decoded_all _ _ _ (rw c.in_default.is at c.in_ok-byte.ensures.found) c.pairs.invariant
