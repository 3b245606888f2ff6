use Rattle.toxic_defs.proofs.WordStates.{stepped}
use Rattle.toxic_defs.proofs.words.Draws.next.Goals as goal

pub returns : goal.returns
returns c = record {
  word = λ key k at. (stepped key k c.next_word.result c.args.self.now.words c.next_word.new.self at c.next_word.ensures).0;
  next = λ key k at. (stepped key k c.next_word.result c.args.self.now.words c.next_word.new.self at c.next_word.ensures).1;
}
