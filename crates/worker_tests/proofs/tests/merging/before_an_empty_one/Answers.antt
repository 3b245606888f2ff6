use Rattle.worker_tests.proofs.WrittenLists.{once_before_empty}
use Rattle.worker_tests.proofs.tests.merging.before_an_empty_one.Goals as goal

pub returns-clause-once : goal.returns-clause-once
returns-clause-once g c = once_before_empty c.args.lists.items c.push.new.self.items c.nothing_written.result c.nothing_written.ensures.none c.in_ok-push.ensures.items c.requires.once
