use Rattle.std.proofs.Common.{◌≡◌, take}
use Rattle.segment_writer.specs.WrittenSegments.{sorted_by_key}
use Rattle.conn_workers.specs.RowShares.{row_segments, row_text}
use Rattle.conn_workers.proofs.under_scenario.UnderScenario.share.Given as goal

-- in order, the segments are those of the recordings until now, and the lines are theirs
abbrev pub invariant-loop-recording : goal.invariant-loop-recording
invariant-loop-recording l = record {
  segments : sorted_by_key l.segments ≡ sorted_by_key (row_segments l.self.seed (l.self.number, l.self.scenario.now) (take l.recording-index l.recordings));
  lines : l.lines.items ≡ row_text l.self.seed (l.self.number, l.self.scenario.now) (take l.recording-index l.recordings);
}
