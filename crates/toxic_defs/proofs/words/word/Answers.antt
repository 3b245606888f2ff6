use Rattle.toxic_defs.proofs.WordStates.{stepped}
use Rattle.toxic_defs.proofs.words.word.Goals as goal

pub returns : goal.returns
returns c =
    let at = rw c.from.ensures at c.generator-words.ensures in
    (stepped c.args.key c.args.k c.next_word.result c.generator-words.result c.next_word.new.self at c.next_word.ensures).0
