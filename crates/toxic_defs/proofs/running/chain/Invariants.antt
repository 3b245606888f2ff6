use Rattle.std.proofs.Common.{◌≡◌, drop, take}
use Rattle.reassembly.specs.LineLaws.{IsLine}
use Rattle.toxic_defs.specs.Toxics.{chain_from, chain, AreInRange}
use Rattle.toxic_defs.proofs.running.chain.Given as goal

abbrev pub invariant-loop-t : goal.invariant-loop-t
invariant-loop-t l = record {
  line : IsLine l.line.line;
  ticks : l.line.ticks ≡ l.fn.line.ticks;
  ranges : AreInRange (take l.t l.toxics);
  done : chain_from l.fn.line.ticks l.opened l.seed l.scenario l.connection l.direction l.t (drop l.t l.toxics) l.line.line ≡ chain l.fn.line.ticks l.toxics l.opened l.seed l.scenario l.connection l.direction l.fn.line.line;
}
