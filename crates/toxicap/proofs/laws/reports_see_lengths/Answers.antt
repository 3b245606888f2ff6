use Rattle.toxicap.proofs.ReportLines.{reports_see_lengths}
use Rattle.toxicap.proofs.laws.reports_see_lengths.Goals as goal

pub returns : goal.returns
returns c = reports_see_lengths c.report_sees_lengths.ensures
