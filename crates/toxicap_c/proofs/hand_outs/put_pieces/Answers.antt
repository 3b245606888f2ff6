use Rattle.std.proofs.Common.{length, arith, refl}
use Rattle.toxicap_c.proofs.LaidParts.{part_fits, part_laid}
use Rattle.toxicap_c.proofs.hand_outs.put_pieces.Goals as goal

pub put_at-requires : goal.put_at-requires
put_at-requires c =
    let loop = c.loop-number in
    part_fits (λ p. p.now) c.args.pieces.now loop.number loop.at _ _ loop.buffer _ c.loop-number-test.true refl
    loop.invariant (length loop.buffer) (omega (arith, c.requires, loop.auto.buffer))

pub loop-number-preserved : goal.loop-number-preserved
loop-number-preserved c =
    let loop = c.loop-number in
    part_laid (λ p. p.now) c.args.pieces.now loop.number loop.at _ _ loop.buffer _ c.loop-number-test.true refl
    loop.invariant c.put_at.new.buffer c.put_at.ensures
