use Rattle.std.proofs.Common.{lit≤}
use Rattle.scenarios.proofs.LastPlaces.{cut_by_split}
use Rattle.scenarios.proofs.upstreams.cut_at_last_colon.Goals as goal

pub returns : goal.returns
returns c = cut_by_split 58 c.args.text.now _ c.rsplit_once.ensures.cases (lit≤ tt)
