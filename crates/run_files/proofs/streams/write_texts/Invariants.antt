use Rattle.std.proofs.Common.{◌≡◌, take}
use Rattle.run_files.specs.{Appends, joined}
use Rattle.run_files.proofs.streams.write_texts.Given as goal

abbrev pub invariant-loop-text : goal.invariant-loop-text
invariant-loop-text g l = record {
  written : Appends (g.W.Write.contents l.fn.writer.inner) (g.W.Write.contents l.writer.inner) (joined (take l.text-index l.texts));
  none_failed : l.writer.failed ≡ l.fn.writer.failed;
}
