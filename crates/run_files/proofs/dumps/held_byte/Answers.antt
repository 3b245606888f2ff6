use Rattle.std.proofs.Common.{◌≡◌, ◌+◌, ◌*◌, Some, slice_get, arith}
use Rattle.std.proofs.lemmas.Grind.{common_steps}
use Rattle.std.proofs.lemmas.Option.{gets}
use Rattle.run_files.proofs.dumps.held_byte.Goals as goal

pub returns-in-Some-Some : goal.returns-in-Some-Some
returns-in-Some-Some c =
    let held : slice_get c.args.pairs.now (c.args.high * 256 + c.args.low) ≡ Some (Some c.in-Some-Some.byte) = grind (arith, common_steps, gets) in
    c.requires c.args.high c.args.low c.in-Some-Some.byte (omega arith) held
