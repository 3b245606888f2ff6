use Rattle.std.proofs.Common.{◌≡◌, ◌-◌, ◌≤◌, length, take}
use Rattle.run_files.specs.{Appends}
use Rattle.run_files.proofs.streams.write_bytes.Given as goal

-- the writer took the first bytes, and no call has failed
abbrev pub invariant-loop-written : goal.invariant-loop-written
invariant-loop-written g l = record {
  within : l.written ≤ length l.bytes;
  took : Appends (g.W.Write.contents l.initial.writer.inner) (g.W.Write.contents l.writer.inner) (take l.written l.bytes);
  none_failed : l.writer.failed ≡ l.initial.writer.failed;
}

abbrev pub decreases-loop-written : goal.decreases-loop-written
decreases-loop-written g l = length l.bytes - l.written
