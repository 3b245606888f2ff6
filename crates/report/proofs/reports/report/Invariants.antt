use Rattle.std.proofs.Common.{◌≡◌, ◌++◌, take}
use Rattle.std.specs.List.{flat_map}
use Rattle.pcap_records.specs.CaptureView.{contents_of}
use Rattle.conn_table.specs.SeenCapture.{seen_capture}
use Rattle.report.specs.ReportText.{counts_text, connections_text}
use Rattle.report.proofs.reports.report.Given as goal

abbrev pub invariant-loop-line : goal.invariant-loop-line
invariant-loop-line l =
    l.text.items ≡ (counts_text l.scenario (seen_capture (contents_of l.capture)) ++ connections_text l.connections l.table.unopened)
    ++ flat_map (λ line. line) (take l.line-index l.lines)
