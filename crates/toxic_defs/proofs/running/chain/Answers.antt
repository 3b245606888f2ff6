use Rattle.std.proofs.Common.{refl, arith, ◌∙◌}
use Rattle.toxic_defs.specs.Toxics.{chain}
use Rattle.toxic_defs.proofs.ToxicLines.{chain_step, chain_end, range_step, range_end}
use Rattle.toxic_defs.proofs.running.chain.Goals as goal

pub loop-t-init : goal.loop-t-init
unfolding chain
loop-t-init c = record { line = c.requires.line; ticks = refl; ranges = tt; done = refl }

pub loop-t-preserved : goal.loop-t-preserved
loop-t-preserved c = record {
  line = c.in_ok-line.ensures.is_line;
  ticks = c.in_ok-line.ensures.ticks ∙ c.loop-t.invariant.ticks;
  ranges = range_step c.loop-t.t c.args.toxics.now c.index-toxics-t.result (omega arith) c.index-toxics-t.is c.in_ok-line.ensures.range c.loop-t.invariant.ranges;
  done = chain_step _ _ _ _ _ _ c.loop-t.t c.args.toxics.now c.index-toxics-t.result _ _ _ (omega arith) c.index-toxics-t.is (rw c.loop-t.invariant.ticks at c.in_ok-line.ensures.line) c.loop-t.invariant.done;
}

pub returns-clause-line : goal.returns-clause-line
returns-clause-line c = chain_end _ _ _ _ _ _ c.loop-t.t c.args.toxics.now _ _ (omega arith) c.loop-t.invariant.done

pub returns-clause-ranges : goal.returns-clause-ranges
returns-clause-ranges c = range_end c.loop-t.t c.args.toxics.now (omega arith) c.loop-t.invariant.ranges
