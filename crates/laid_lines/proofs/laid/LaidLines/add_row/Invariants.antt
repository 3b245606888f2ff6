use Rattle.std.proofs.Common.{◌≡◌, drop, map}
use Rattle.laid_lines.specs.FlatLines.{together}
use Rattle.laid_lines.specs.RecordedLines.{after, flat_view, lines_by}
use Rattle.laid_lines.proofs.laid.LaidLines.add_row.Given as goal

abbrev pub invariant-loop-recording : goal.invariant-loop-recording
invariant-loop-recording l =
    after (flat_view l.self) (together (map (lines_by l.under.seed (l.under.number, l.under.scenario.now)) (drop l.recording-index l.recordings)))
    ≡ after (flat_view l.initial.self) (together (map (lines_by l.under.seed (l.under.number, l.under.scenario.now)) l.recordings))
