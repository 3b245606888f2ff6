use Rattle.toxicap.specs.{written}
use Rattle.toxicap.proofs.RunSteps.{so_far, writes}
use Rattle.toxicap.proofs.commands.write_text.Goals as goal

pub returns : goal.returns
returns g c =
    let wrote = c.write_bytes.ensures in
    let w = c.args.writer.now in
    let x = c.write_bytes.new.writer in
    so_far c.write_bytes.result c.args.text.now (written g.W.Write.contents w x)
    (writes g.W.Write.contents w x c.write_bytes.result c.args.text.now wrote.whole wrote.none_failed wrote.refused wrote.one_failed wrote.first_part)
