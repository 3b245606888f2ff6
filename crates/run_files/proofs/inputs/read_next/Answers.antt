use Rattle.std.proofs.Common.{◌++◌, take, arith, length-append}
use Rattle.std.proofs.lemmas.List.{length-take-le}
use Rattle.run_files.proofs.inputs.read_next.Goals as goal

pub returns-in_default-clause-stops : goal.returns-in_default-clause-stops
returns-in_default-clause-stops g c = λ before bytes long is.
    (bytes, c.in_default.ensures.failed before bytes is, omega (arith, long, c.requires.short))

pub returns-then-len-came-clause-stops : goal.returns-then-len-came-clause-stops
returns-then-len-came-clause-stops g c = λ before bytes long is.
    let last = take c.in-Some.len c.read_more.new.room in (
      bytes ++ last,
      c.in-Some.ensures.came bytes before is,
      omega (arith, long, length-append bytes last, length-take-le c.in-Some.len c.read_more.new.room c.in-Some.ensures.within, c.if-len-came.true),
    )
