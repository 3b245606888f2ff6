use Rattle.toxic_defs.proofs.WordStates.{jumped}
use Rattle.toxic_defs.proofs.words.generator.Goals as goal

pub returns : goal.returns
returns c = jumped c.args.key.now c.stream.result c.args.k c.new-words.result c.advance.new.self c.stream.ensures.stream c.stream.ensures.small c.new-words.ensures c.advance.ensures
