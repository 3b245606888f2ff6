use Rattle.std.proofs.Common.{refl}
use Rattle.std.specs.Fmt.{digits}
use Rattle.toxic_defs.specs.SessionCut.{cut_line}
use Rattle.toxic_defs.specs.DeliveredLines.{delivered_connection}
use Rattle.report.specs.ReportText.{connection_text}
use Rattle.report.proofs.rows.line_rows.Goals as goal

pub returns : goal.returns
unfolding delivered_connection cut_line connection_text digits
returns c = record {
  session = refl;
  refused = refl;
  limited = refl;
  reset = refl;
  stopped = refl;
  reset_at_once = refl;
  tie = refl;
  fin_stays = refl;
  at_horizon = refl;
  before_horizon = refl;
  later = refl;
  longest = refl;
}
