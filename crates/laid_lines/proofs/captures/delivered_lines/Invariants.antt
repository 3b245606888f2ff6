use Rattle.std.proofs.Common.{◌≡◌, drop}
use Rattle.std.specs.List.{enumerate_from}
use Rattle.conn_workers.specs.Recordings.{rows}
use Rattle.laid_lines.specs.FlatLines.{together}
use Rattle.laid_lines.specs.RecordedLines.{after, flat_view, lines_by}
use Rattle.laid_lines.proofs.captures.delivered_lines.Given as goal

abbrev pub invariant-loop-number : goal.invariant-loop-number
invariant-loop-number l =
    after (flat_view l.laid) (together (rows (lines_by l.seed) (enumerate_from l.number (drop l.number l.scenarios)) l.recordings))
    ≡ together (rows (lines_by l.seed) (enumerate_from 0 l.scenarios) l.recordings)
