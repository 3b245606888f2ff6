use Rattle.std.proofs.Common.{length}
use Rattle.reassembly.proofs.overlays.+layered.Given as goal

abbrev pub decreases-layered : goal.decreases-layered
decreases-layered l = length l.patches.now
