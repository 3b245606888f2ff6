use Rattle.std.proofs.Common.{arith, sym, ◌∙◌}
use Rattle.toxic_defs.proofs.FirstBytes.{lost_more, kept_up_to}
use Rattle.toxic_defs.proofs.session_cut.kept_parts.Goals as goal

pub parts-preserved : goal.parts-preserved
parts-preserved c = record {
  within = omega arith;
  kept = sym (lost_more _ _ _ c.index-parts-kept.result c.parts-test.true c.parts.invariant.within (cc)) ∙ c.parts.invariant.kept;
}

pub returns-else-not-has_byte_before : goal.returns-else-not-has_byte_before
returns-else-not-has_byte_before c = sym (kept_up_to _ _ _ c.index-parts-kept.result c.parts-test.true c.parts.invariant.within c.requires (cc)) ∙ c.parts.invariant.kept
