use Rattle.std.proofs.Common.{◌≡◌, ◌<◌, ◌-◌, length, get_or, arith, rules, sym, ap, ◌∙◌, subst}
use Rattle.std.proofs.lemmas.Bool.Decides.{nat_tests}
use Rattle.reassembly.specs.LineLaws.{last_instant}
use Rattle.reassembly.specs.declared.line_parts.LinePart.{LinePart}
use Rattle.toxic_defs.proofs.Parts.{none_more, last_found}
use Rattle.toxic_defs.proofs.end_rule.last_instant.Goals as goal

pub returns-then-not-is_empty : goal.returns-then-not-is_empty
returns-then-not-is_empty c =
    let p : LinePart = c.index-parts-count.result in
    let some : 0 < length p.bytes.now = first_of (search rules, grind (arith, nat_tests)) in
    let there : 0 < length (get_or c.args.parts.now (c.parts.count - 1) p).bytes.now = subst (λ (q : LinePart). 0 < length q.bytes.now) c.index-parts-count.is some in
    ap (λ (q : LinePart). q.at) c.index-parts-count.is ∙ sym (last_found c.parts.count c.args.parts.now p c.parts-test.true c.parts.invariant.within there) ∙ ap (last_instant 0) c.parts.invariant.all

pub parts-preserved : goal.parts-preserved
parts-preserved c =
    let p : LinePart = c.index-parts-count.result in
    let empty : length p.bytes.now ≡ 0 = first_of (search rules, grind (arith, nat_tests)) in
    record {
      within = omega arith;
      all = sym (none_more c.parts.count c.args.parts.now p c.parts-test.true c.parts.invariant.within (subst (λ (q : LinePart). length q.bytes.now ≡ 0) c.index-parts-count.is empty)) ∙ c.parts.invariant.all;
    }
