use Rattle.std.proofs.Common.{◌≡◌, take}
use Rattle.run_files.specs.{Appends, reports_of}
use Rattle.run_files.proofs.outputs.print_reports.Given as goal

abbrev pub invariant-loop-output : goal.invariant-loop-output
invariant-loop-output g l = record {
  printed : Appends (g.W.Write.contents l.fn.writer.inner) (g.W.Write.contents l.writer.inner) (reports_of (take l.output-index l.output-items));
  none_failed : l.writer.failed ≡ l.fn.writer.failed;
}
