use Rattle.worker_tests.proofs.WrittenLists.{turned_once}
use Rattle.worker_tests.proofs.tests.merging.backwards.Goals as goal

pub returns-clause-once : goal.returns-clause-once
returns-clause-once c = turned_once c.once_in_any_order.ensures c.args.lists.items c.reverse.new.self.items c.reverse.ensures.items c.requires.once
