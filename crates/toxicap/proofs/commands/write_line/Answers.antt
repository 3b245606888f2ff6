use Rattle.toxicap.specs.{text_with_line_feed, written}
use Rattle.toxicap.proofs.RunSteps.{so_far, writes}
use Rattle.toxicap.proofs.commands.write_line.Goals as goal

pub returns : goal.returns
returns g c =
    let wrote = c.write_texts.ensures in
    let w = c.args.writer.now in
    let x = c.write_texts.new.writer in
    so_far c.write_texts.result (text_with_line_feed c.args.line.now) (written g.W.Write.contents w x)
    (writes g.W.Write.contents w x c.write_texts.result (text_with_line_feed c.args.line.now) wrote.whole wrote.none_failed wrote.refused wrote.one_failed wrote.first_part)
